-- Readers against parts of the grammar: one lemma for each way in which they are composed.
use Rattle.std.proofs.Common.{◌≡◌, ℕ, zero, suc, ◌+◌, ◌-◌, ◌<◌, ◌≤◌, Bool, true, false, cond, List, [], ◌∷◌, ◌++◌, length, refl, sym, ap, subst, ◌∙◌, ◌⊎◌, inl, inr, arith, Option, Some, None}
use Rattle.std.proofs.lemmas.List.{append_assoc}
use Rattle.hl_syntax.specs.declared.token.Span.{Span}
use Rattle.hl_syntax.specs.declared.token.Token.{Token}
use Rattle.hl_syntax.specs.declared.token.TokenKind.{TokenKind}
use Rattle.simplicityhl.specs.Parts.{Part}
use Rattle.simplicityhl.specs.Parts as g
use Rattle.hl_grammar.specs.Readers.{Outcome, Reader, got, dead, too_deep, and_then}
use Rattle.hl_grammar.specs.Readers as r

-- What a reader answers.

-- the tokens from where reading stopped
abbrev pub left : {A : Type 0} → Outcome A → List Token
left (got a rest) = rest
left (dead rest) = rest
left (too_deep rest) = rest

abbrev pub IsTooDeep : {A : Type 0} → Outcome A → Type 0
IsTooDeep (got a rest) = ⊥
IsTooDeep (dead rest) = ⊥
IsTooDeep (too_deep rest) = Unit {0}

-- a part of one depth is read by a reader of another: that of a lower one may find it too deep
abbrev pub Reads : {A : Type 0} → (depth depth' : ℕ) → Outcome A → A → List Token → Type 0
Reads depth depth' o a rest = (o ≡ got a rest) ⊎ ((depth' < depth) × IsTooDeep o)

-- reading goes on up to these tokens at least
abbrev pub Stays : {A : Type 0} → (depth depth' : ℕ) → Outcome A → List Token → Type 0
Stays depth depth' o rest = (length (left o) ≤ length rest) ⊎ ((depth' < depth) × IsTooDeep o)

-- reading finds something too deep before these tokens
abbrev pub Sinks : {A : Type 0} → Outcome A → List Token → Type 0
Sinks o rest = (deep : List Token) × (o ≡ too_deep deep) × (length rest < length deep)

-- A reader of lists shorter than a bound lies between two parts of the grammar: what the smaller
-- one has is read, where what follows can't go on with it, and what is read is of the larger one.
-- Where it refuses a token, those before it are a front of the larger part; it goes through each
-- front of the smaller one, and stops at what is nested too deep. An occurrence takes so many tokens
-- at least. The smaller part is of the first depth, the larger one and the reader of the second.
pub record Exact {A : Type 0} (free : List Token → Bool) (depth depth' least bound : ℕ) (p q : Part A) (reader : Reader A) : Type 0 where
  pub sound : (ts : List Token) (a : A) (rest : List Token) → reader ts ≡ got a rest → q.Whole ts a rest
  pub stops : (ts rest : List Token) → reader ts ≡ dead rest → q.Front ts rest
  pub sinks : (ts rest : List Token) → reader ts ≡ too_deep rest → (t : Token) × (after : List Token) × (rest ≡ t ∷ after) × q.Deep ts after
  pub less : (ts : List Token) → length (left (reader ts)) ≤ length ts
  pub suffix : (ts : List Token) → (before : List Token) × (ts ≡ before ++ left (reader ts))
  pub whole : (ts : List Token) (a : A) (rest : List Token) → length ts < bound → p.Whole ts a rest → free rest ≡ true → Reads depth depth' (reader ts) a rest
  pub takes : (ts : List Token) (a : A) (rest : List Token) → length ts < bound → p.Whole ts a rest → least + length rest ≤ length ts
  pub fronts : (ts : List Token) (a : A) (rest : List Token) → length ts < bound → p.Whole ts a rest → p.Front ts rest
  pub stays : (ts rest : List Token) → length ts < bound → p.Front ts rest → Stays depth depth' (reader ts) rest
  pub deeps : depth ≡ depth' → (ts rest : List Token) → length ts < bound → p.Deep ts rest → Sinks (reader ts) rest

abbrev pub anything : List Token → Bool
anything ts = true

-- what the tokens ahead show of an occurrence, of a front that has a token, and of what is too deep
pub record Shows {A V : Type 0} (test : List Token → V) (answer : V) (p : Part A) : Type 0 where
  pub whole : (ts : List Token) (a : A) (rest : List Token) → p.Whole ts a rest → test ts ≡ answer
  pub front : (ts rest : List Token) → p.Front ts rest → (rest ≡ ts) ⊎ (test ts ≡ answer)
  pub deep : (ts rest : List Token) → p.Deep ts rest → test ts ≡ answer

-- where a part may follow what wants a test, if what follows the part passes another
pub record Follows {A : Type 0} (after before : List Token → Bool) (p : Part A) : Type 0 where
  pub whole : (ts : List Token) (a : A) (rest : List Token) → p.Whole ts a rest → after rest ≡ true → before ts ≡ true
  pub front : (ts rest : List Token) → p.Front ts rest → (rest ≡ ts) ⊎ (before ts ≡ true)
  pub deep : (ts rest : List Token) → p.Deep ts rest → before ts ≡ true

pub shows_then : {A B V : Type 0} {test : List Token → V} {answer : V} {p : Part A} {q : A → Part B} → Shows test answer p → Shows test answer (g.◌>>=◌ p q)
shows_then s = record {
  whole = λ ts b rest w. s.whole ts w.0 w.1 w.2;
  front = λ ts rest h. elim h [ inl f ↦ s.front ts rest f | inr v ↦ inr (s.whole ts v.0 v.1 v.2) ];
  deep = λ ts rest h. elim h [ inl f ↦ s.deep ts rest f | inr v ↦ s.whole ts v.0 v.1 v.2 ];
}

pub shows_either : {A V : Type 0} {test : List Token → V} {answer : V} {p q : Part A} → Shows test answer p → Shows test answer q → Shows test answer (g.either p q)
shows_either s k = record {
  whole = λ ts a rest w. elim w [ inl u ↦ s.whole ts a rest u | inr v ↦ k.whole ts a rest v ];
  front = λ ts rest h. elim h [ inl u ↦ s.front ts rest u | inr v ↦ k.front ts rest v ];
  deep = λ ts rest h. elim h [ inl u ↦ s.deep ts rest u | inr v ↦ k.deep ts rest v ];
}

pub shows_one_of : {L A V : Type 0} {test : List Token → V} {answer : V} {p : L → Part A} → ((l : L) → Shows test answer (p l)) → Shows test answer (g.one_of p)
shows_one_of s = record {
  whole = λ ts a rest w. (s w.0).whole ts a rest w.1;
  front = λ ts rest h. (s h.0).front ts rest h.1;
  deep = λ ts rest h. (s h.0).deep ts rest h.1;
}

pub shows_never : {A V : Type 0} {test : List Token → V} {answer : V} → Shows test answer (g.never {A = A})
shows_never = record { whole = λ ts a rest w. absurd w; front = λ ts rest e. inl e; deep = λ ts rest h. absurd h }

-- the place before some tokens, and then a part
pub shows_here : {B V : Type 0} {test : List Token → V} {answer : V} {q : List Token → Part B} → ((first : List Token) → Shows test answer (q first)) → Shows test answer (g.◌>>=◌ g.here q)
shows_here {test} {answer} {q} s = record {
  whole = λ ts b rest w. subst (λ us. test us ≡ answer) w.2.1 ((s w.0).whole w.1 b rest w.3);
  front = λ ts rest h. elim h [
    | inl e ↦ inl e
    | inr v ↦ subst (λ us. (rest ≡ us) ⊎ (test us ≡ answer)) v.2.1 ((s v.0).front v.1 rest v.3)
  ];
  deep = λ ts rest h. elim h [ inl e ↦ absurd e | inr v ↦ subst (λ us. test us ≡ answer) v.2.1 ((s v.0).deep v.1 rest v.3) ];
}

pub shows_chosen : {A V : Type 0} {test : List Token → V} {answer : V} {p q : Part A} (b : Bool) → Shows test answer p → Shows test answer q → Shows test answer (g.chosen b p q)
shows_chosen true s k = s
shows_chosen false s k = k

-- what would be nested too deep shows the same
pub shows_too_deep : {A V : Type 0} {test : List Token → V} {answer : V} {p : Part A} → Shows test answer p → Shows test answer (g.too_deep p)
shows_too_deep s = record {
  whole = λ ts a rest w. absurd w;
  front = λ ts rest e. inl e;
  deep = λ ts rest h. elim (s.front ts rest h.2) [ inl e ↦ let k : length rest ≡ length (h.0 ∷ rest) = ap length (e ∙ h.1) in absurd (omega arith) | inr k ↦ k ];
}

-- what one test shows, seen by another
pub shows_by : {A V W : Type 0} {test : List Token → V} {answer : V} {p : Part A} (other : List Token → W) (told : W) → ((ts : List Token) → test ts ≡ answer → other ts ≡ told) → Shows test answer p → Shows other told p
shows_by other told so s = record {
  whole = λ ts a rest w. so ts (s.whole ts a rest w);
  front = λ ts rest h. elim (s.front ts rest h) [ inl e ↦ inl e | inr k ↦ inr (so ts k) ];
  deep = λ ts rest h. so ts (s.deep ts rest h);
}

pub shown : {A : Type 0} {before : List Token → Bool} {p : Part A} (after : List Token → Bool) → Shows before true p → Follows after before p
shown after s = record { whole = λ ts a rest w free. s.whole ts a rest w; front = s.front; deep = s.deep }

pub follows_done : {A : Type 0} (f : List Token → Bool) (a : A) → Follows f f (g.done a)
follows_done f a = record { whole = λ ts b rest w free. subst (λ us. f us ≡ true) w.1 free; front = λ ts rest e. inl e; deep = λ ts rest h. absurd h }

pub free_anything : {A : Type 0} (after : List Token → Bool) (p : Part A) → Follows after anything p
free_anything after p = record { whole = λ ts a rest w free. refl; front = λ ts rest h. inr refl; deep = λ ts rest h. refl }

pub got-same : {A : Type 0} {a b : A} {ts us : List Token} → Outcome.got a ts ≡ Outcome.got b us → (a ≡ b) × (ts ≡ us)
got-same e = (let h : _ ≡ _ = cc in h, let h : _ ≡ _ = cc in h)

-- a refusal of a reader of some values
abbrev dead_of : (A : Type 0) → List Token → Outcome A
dead_of A ts = dead ts

abbrev too_deep_of : (A : Type 0) → List Token → Outcome A
too_deep_of A ts = too_deep ts

pub dead-same : {A : Type 0} {ts us : List Token} → dead_of A ts ≡ dead us → ts ≡ us
dead-same e = let h : _ ≡ _ = cc in h

pub deep-same : {A : Type 0} {ts us : List Token} → too_deep_of A ts ≡ too_deep us → ts ≡ us
deep-same e = let h : _ ≡ _ = cc in h

-- with no deeper part, what is read is got
pub reads_got : {A : Type 0} (depth depth' : ℕ) (o : Outcome A) (a : A) (rest : List Token) → depth ≤ depth' → Reads depth depth' o a rest → o ≡ got a rest
reads_got depth depth' o a rest below h = elim h [ inl e ↦ e | inr u ↦ let v = u.0 in absurd (omega arith) ]

-- where nothing is read, reading stays
stays_all : {A : Type 0} {depth depth' : ℕ} (o : Outcome A) (ts rest : List Token) → rest ≡ ts → length (left o) ≤ length ts → Stays depth depth' o rest
stays_all o ts rest e h = inl (rw e h)

pub done-exact : {A : Type 0} {d n : ℕ} (a : A) (bound : ℕ) → Exact anything d n 0 bound (g.done a) (g.done a) (r.done a)
done-exact a bound = record {
  sound = λ ts b rest e. let s = got-same e in (sym s.0, sym s.1);
  stops = λ ts rest e. absurd (let no : ⊥ = cc in no);
  sinks = λ ts rest e. absurd (let no : ⊥ = cc in no);
  less = λ ts. omega arith;
  suffix = λ ts. ([], refl);
  whole = λ ts b rest short w free. inl (rw (w.0, w.1) refl);
  takes = λ ts b rest short w. rw w.1 (omega arith);
  fronts = λ ts b rest short w. w.1;
  stays = λ ts rest short f. inl (rw f (omega arith));
  deeps = λ same ts rest short h. absurd h;
}

pub here-exact : {d n : ℕ} (bound : ℕ) → Exact anything d n 0 bound g.here g.here r.here
here-exact bound = record {
  sound = λ ts b rest e. let s = got-same e in (sym s.0, sym s.1);
  stops = λ ts rest e. absurd (let no : ⊥ = cc in no);
  sinks = λ ts rest e. absurd (let no : ⊥ = cc in no);
  less = λ ts. omega arith;
  suffix = λ ts. ([], refl);
  whole = λ ts b rest short w free. inl (rw (w.0, w.1) refl);
  takes = λ ts b rest short w. rw w.1 (omega arith);
  fronts = λ ts b rest short w. w.1;
  stays = λ ts rest short f. inl (rw f (omega arith));
  deeps = λ same ts rest short h. absurd h;
}

-- the same with less claimed
pub weaken : {A : Type 0} {f : List Token → Bool} {d n least bound : ℕ} {p q : Part A} {reader : Reader A} (f' : List Token → Bool) (least' bound' : ℕ) → ((ts : List Token) → f' ts ≡ true → f ts ≡ true) → least' ≤ least → bound' ≤ bound → Exact f d n least bound p q reader → Exact f' d n least' bound' p q reader
weaken f' least' bound' implied fewer shorter x = record {
  sound = x.sound;
  stops = x.stops;
  sinks = x.sinks;
  less = x.less;
  suffix = x.suffix;
  whole = λ ts a rest short w free. x.whole ts a rest (omega arith) w (implied rest free);
  takes = λ ts a rest short w. let h = x.takes ts a rest (omega arith) w in omega arith;
  fronts = λ ts a rest short w. x.fronts ts a rest (omega arith) w;
  stays = λ ts rest short h. x.stays ts rest (omega arith) h;
  deeps = λ same ts rest short h. x.deeps same ts rest (omega arith) h;
}

-- a reader that reads anything after it, where less is known
pub freely : {A : Type 0} {d n least bound : ℕ} {p q : Part A} {reader : Reader A} (f' : List Token → Bool) → Exact anything d n least bound p q reader → Exact f' d n least bound p q reader
freely {least} {bound} f' x = weaken f' least bound (λ ts h. refl) (omega arith) (omega arith) x

pub fewer : {A : Type 0} {f : List Token → Bool} {d n least bound : ℕ} {p q : Part A} {reader : Reader A} (bound' : ℕ) → bound' ≤ bound → Exact f d n least bound p q reader → Exact f d n least bound' p q reader
fewer {f} {least} bound' shorter x = weaken f least bound' (λ ts h. h) (omega arith) shorter x

pub at_least : {A : Type 0} {f : List Token → Bool} {d n least bound : ℕ} {p q : Part A} {reader : Reader A} (least' : ℕ) → least' ≤ least → Exact f d n least bound p q reader → Exact f d n least' bound p q reader
at_least {f} {bound} least' less x = weaken f least' bound (λ ts h. h) less (omega arith) x

-- the same one level further in
pub deeper : {A : Type 0} {f : List Token → Bool} {d n least bound : ℕ} {p q : Part A} {reader : Reader A} → Exact f d n least bound p q reader → Exact f (suc d) (suc n) least bound p q reader
deeper {d} {n} {reader} x = record {
  sound = x.sound;
  stops = x.stops;
  sinks = x.sinks;
  less = x.less;
  suffix = x.suffix;
  whole = λ ts a rest short w free. elim (x.whole ts a rest short w free) [ inl e ↦ inl e | inr u ↦ let v = u.0 in inr (omega arith, u.1) ];
  takes = x.takes;
  fronts = x.fronts;
  stays = λ ts rest short h. elim (x.stays ts rest short h) [ inl e ↦ inl e | inr u ↦ let v = u.0 in inr (omega arith, u.1) ];
  deeps = λ same ts rest short h. x.deeps (omega arith) ts rest short h;
}

pub one-exact : {A : Type 0} {d n : ℕ} (test : TokenKind → Bool) (value : Token → A) (bound : ℕ) → Exact anything d n 1 bound (g.one test value) (g.one test value) (r.one test value)
one-exact {A} test value bound = record {
  sound = λ ts a rest e. reads ts a rest e;
  stops = λ ts rest e. inl (stops ts rest e);
  sinks = λ ts rest e. absurd (no_sink ts rest e);
  less = λ ts. less ts;
  suffix = λ ts. suffix ts;
  whole = λ ts a rest short w free. inl (rw (w.1, w.2, w.3) refl);
  takes = λ ts a rest short w. rw w.1 (omega arith);
  fronts = λ ts a rest short w. inr (w.0, w.1, w.2);
  stays = λ ts rest short f. elim f [ inl e ↦ inl (rw e (less ts)) | inr u ↦ inl (rw (u.1, u.2) (omega arith)) ];
  deeps = λ same ts rest short h. absurd h;
} where
  by_test : (b : Bool) (t : Token) (ts : List Token) (a : A) (rest : List Token) → test t.kind ≡ b → cond b (got (value t) ts) (dead (t ∷ ts)) ≡ got a rest → (g.one test value).Whole (t ∷ ts) a rest
  by_test true t ts a rest is e = let s = got-same e in (t, ap (λ us. t ∷ us) s.1, is, sym s.0)
  by_test false t ts a rest is e = absurd (let no : ⊥ = cc in no)

  reads : (ts : List Token) (a : A) (rest : List Token) → r.one test value ts ≡ got a rest → (g.one test value).Whole ts a rest
  reads [] a rest e = absurd (let no : ⊥ = cc in no)
  reads (t ∷ ts) a rest e = by_test (test t.kind) t ts a rest refl e

  stop_by : (b : Bool) (t : Token) (ts rest : List Token) → cond b (got (value t) ts) (dead (t ∷ ts)) ≡ dead rest → rest ≡ t ∷ ts
  stop_by true t ts rest e = absurd (let no : ⊥ = cc in no)
  stop_by false t ts rest e = sym (dead-same e)

  stops : (ts rest : List Token) → r.one test value ts ≡ dead rest → rest ≡ ts
  stops [] rest e = sym (dead-same e)
  stops (t ∷ ts) rest e = stop_by (test t.kind) t ts rest e

  sink_by : (b : Bool) (t : Token) (ts rest : List Token) → cond b (got (value t) ts) (dead (t ∷ ts)) ≡ too_deep rest → ⊥
  sink_by true t ts rest e = let no : ⊥ = cc in no
  sink_by false t ts rest e = let no : ⊥ = cc in no

  no_sink : (ts rest : List Token) → r.one test value ts ≡ too_deep rest → ⊥
  no_sink [] rest e = let no : ⊥ = cc in no
  no_sink (t ∷ ts) rest e = sink_by (test t.kind) t ts rest e

  less_by : (b : Bool) (t : Token) (ts : List Token) → length (left (cond b (got (value t) ts) (dead (t ∷ ts)))) ≤ suc (length ts)
  less_by true t ts = omega arith
  less_by false t ts = omega arith

  suffix_by : (b : Bool) (t : Token) (ts : List Token) → (before : List Token) × (t ∷ ts ≡ before ++ left (cond b (got (value t) ts) (dead (t ∷ ts))))
  suffix_by true t ts = (t ∷ [], refl)
  suffix_by false t ts = ([], refl)

  suffix : (ts : List Token) → (before : List Token) × (ts ≡ before ++ left (r.one test value ts))
  suffix [] = ([], refl)
  suffix (t ∷ ts) = suffix_by (test t.kind) t ts

  less : (ts : List Token) → length (left (r.one test value ts)) ≤ length ts
  less [] = omega arith
  less (t ∷ ts) = less_by (test t.kind) t ts

-- Two steps.

-- what a reading in two steps gives
pub record Steps {A B : Type 0} (first : Outcome A) (then : A → Reader B) (o : Outcome B) : Type 0 where
  pub value : A
  pub middle : List Token
  pub was : first ≡ got value middle
  pub gives : then value middle ≡ o

pub steps : {A B : Type 0} (first : Outcome A) (then : A → Reader B) (b : B) (rest : List Token) → and_then first then ≡ got b rest → Steps first then (got b rest)
steps (got a middle) then b rest e = record { value = a; middle = middle; was = refl; gives = e }
steps (dead us) then b rest e = absurd (let no : ⊥ = cc in no)
steps (too_deep us) then b rest e = absurd (let no : ⊥ = cc in no)

-- where a reading in two steps is refused
pub dead_steps : {A B : Type 0} (first : Outcome A) (then : A → Reader B) (rest : List Token) → and_then first then ≡ dead rest → (first ≡ dead rest) ⊎ Steps first then (dead rest)
dead_steps (got a middle) then rest e = inr (record { value = a; middle = middle; was = refl; gives = e })
dead_steps (dead us) then rest e = inl (ap (λ vs. dead vs) (dead-same e))
dead_steps (too_deep us) then rest e = absurd (let no : ⊥ = cc in no)

pub deep_steps : {A B : Type 0} (first : Outcome A) (then : A → Reader B) (rest : List Token) → and_then first then ≡ too_deep rest → (first ≡ too_deep rest) ⊎ Steps first then (too_deep rest)
deep_steps (got a middle) then rest e = inr (record { value = a; middle = middle; was = refl; gives = e })
deep_steps (dead us) then rest e = absurd (let no : ⊥ = cc in no)
deep_steps (too_deep us) then rest e = inl (ap (λ vs. too_deep vs) (deep-same e))

less_then : {A B : Type 0} (o : Outcome A) (then : A → Reader B) → ((a : A) (us : List Token) → length (left (then a us)) ≤ length us) → length (left (and_then o then)) ≤ length (left o)
less_then (got a us) then h = h a us
less_then (dead us) then h = omega arith
less_then (too_deep us) then h = omega arith

-- what is left in two steps is the end of what was there
suffix_then : {A B : Type 0} (o : Outcome A) (then : A → Reader B) → ((a : A) (us : List Token) → (before : List Token) × (us ≡ before ++ left (then a us))) → (ts : List Token) → ((before : List Token) × (ts ≡ before ++ left o)) → (before : List Token) × (ts ≡ before ++ left (and_then o then))
suffix_then (got a us) then h ts b = let c = h a us in (b.0 ++ c.0, b.1 ∙ ap (λ l. b.0 ++ l) c.1 ∙ sym (append_assoc b.0 c.0 (left (then a us))))
suffix_then (dead us) then h ts b = b
suffix_then (too_deep us) then h ts b = b

deep_then : {A B : Type 0} (o : Outcome A) (then : A → Reader B) → IsTooDeep o → IsTooDeep (and_then o then)
deep_then (got a us) then h = absurd h
deep_then (dead us) then h = absurd h
deep_then (too_deep us) then h = tt

reads_then : {A B : Type 0} (d n : ℕ) (o : Outcome A) (then : A → Reader B) (a : A) (middle : List Token) (b : B) (rest : List Token) → Reads d n o a middle → Reads d n (then a middle) b rest → Reads d n (and_then o then) b rest
reads_then d n o then a middle b rest h k = elim h [ inl e ↦ rw e k | inr u ↦ inr (u.0, deep_then o then u.1) ]

stays_then : {A B : Type 0} (d n : ℕ) (o : Outcome A) (then : A → Reader B) (rest : List Token) → ((a : A) (us : List Token) → length (left (then a us)) ≤ length us) → Stays d n o rest → Stays d n (and_then o then) rest
stays_then d n o then rest less h = elim h [ inl e ↦ let k = less_then o then less in inl (omega arith) | inr u ↦ inr (u.0, deep_then o then u.1) ]

reads_stays : {A B : Type 0} (d n : ℕ) (o : Outcome A) (then : A → Reader B) (a : A) (middle rest : List Token) → Reads d n o a middle → Stays d n (then a middle) rest → Stays d n (and_then o then) rest
reads_stays d n o then a middle rest h k = elim h [ inl e ↦ rw e k | inr u ↦ inr (u.0, deep_then o then u.1) ]

sinks_then : {A B : Type 0} (o : Outcome A) (then : A → Reader B) (rest : List Token) → Sinks o rest → Sinks (and_then o then) rest
sinks_then o then rest s = (s.0, rw s.1 refl, s.2)

reads_sinks : {A B : Type 0} (d n : ℕ) (o : Outcome A) (then : A → Reader B) (a : A) (middle rest : List Token) → d ≡ n → Reads d n o a middle → Sinks (then a middle) rest → Sinks (and_then o then) rest
reads_sinks d n o then a middle rest same h s = let e = reads_got d n o a middle (omega arith) h in (s.0, rw e s.1, s.2)

pub after-exact : {A B : Type 0} {f f' : List Token → Bool} {d n least least' bound : ℕ} {p p' : Part A} {q q' : A → Part B} {first : Reader A} {then : A → Reader B}
    → Exact f d n least bound p p' first → ((a : A) → Exact f' d n least' (bound - least) (q a) (q' a) (then a))
    → ((a : A) → Follows f' f (q a))
    → Exact f' d n (least + least') bound (g.◌>>=◌ p q) (g.◌>>=◌ p' q') (r.◌>>=◌ first then)
after-exact {A} {B} {f} {f'} {d} {n} {least} {least'} {bound} {p} {p'} {q} {q'} {first} {then} x y follows = record {
  sound = λ ts b rest e. let s = steps (first ts) then b rest e in (s.value, s.middle, x.sound ts s.value s.middle s.was, (y s.value).sound s.middle b rest s.gives);
  stops = λ ts rest e. elim (dead_steps (first ts) then rest e) [
    | inl u ↦ inl (x.stops ts rest u)
    | inr s ↦ inr (s.value, s.middle, x.sound ts s.value s.middle s.was, (y s.value).stops s.middle rest s.gives)
  ];
  sinks = λ ts rest e. elim (deep_steps (first ts) then rest e) [
    | inl u ↦ let h = x.sinks ts rest u in (h.0, h.1, h.2, inl h.3)
    | inr s ↦ let h = (y s.value).sinks s.middle rest s.gives in (h.0, h.1, h.2, inr (s.value, s.middle, x.sound ts s.value s.middle s.was, h.3))
  ];
  less = λ ts. let h = less_then (first ts) then (λ a us. (y a).less us) in let k = x.less ts in omega arith;
  suffix = λ ts. suffix_then (first ts) then (λ a us. (y a).suffix us) ts (x.suffix ts);
  whole = λ ts b rest short w free.
      let h = x.takes ts w.0 w.1 short w.2 in
      reads_then d n (first ts) then w.0 w.1 b rest (x.whole ts w.0 w.1 short w.2 ((follows w.0).whole w.1 b rest w.3 free)) ((y w.0).whole w.1 b rest (omega arith) w.3 free);
  takes = λ ts b rest short w.
      let h = x.takes ts w.0 w.1 short w.2 in
      let k = (y w.0).takes w.1 b rest (omega arith) w.3 in
      omega arith;
  fronts = λ ts b rest short w.
      let h = x.takes ts w.0 w.1 short w.2 in
      inr (w.0, w.1, w.2, (y w.0).fronts w.1 b rest (omega arith) w.3);
  stays = λ ts rest short h. elim h [
    | inl u ↦ stays_then d n (first ts) then rest (λ a us. (y a).less us) (x.stays ts rest short u)
    | inr v ↦ goes_on ts rest v.0 v.1 short v.2 v.3 ((follows v.0).front v.1 rest v.3)
  ];
  deeps = λ same ts rest short h. elim h [
    | inl u ↦ sinks_then (first ts) then rest (x.deeps same ts rest short u)
    | inr v ↦
        let k = x.takes ts v.0 v.1 short v.2 in
        reads_sinks d n (first ts) then v.0 v.1 rest same (x.whole ts v.0 v.1 short v.2 ((follows v.0).deep v.1 rest v.3)) ((y v.0).deeps same v.1 rest (omega arith) v.3)
  ];
} where
  goes_on : (ts rest : List Token) (a : A) (middle : List Token) → length ts < bound → p.Whole ts a middle → (q a).Front middle rest → (rest ≡ middle) ⊎ (f middle ≡ true) → Stays d n (and_then (first ts) then) rest
  goes_on ts rest a middle short w v (inl e) = stays_then d n (first ts) then rest (λ b us. (y b).less us) (x.stays ts rest short (subst (λ us. p.Front ts us) (sym e) (x.fronts ts a middle short w)))
  goes_on ts rest a middle short w v (inr h) = let k = x.takes ts a middle short w in reads_stays d n (first ts) then a middle rest (x.whole ts a middle short w h) ((y a).stays middle rest (omega arith) v)

pub end-exact : {d n : ℕ} (bound : ℕ) → Exact anything d n 0 bound g.end g.end r.end
end-exact bound = record {
  sound = λ ts a rest e. reads ts a rest e;
  stops = λ ts rest e. stops ts rest e;
  sinks = λ ts rest e. absurd (no_sink ts rest e);
  less = λ ts. less ts;
  suffix = λ ts. suffix ts;
  whole = λ ts a rest short w free. inl (rw (w.0, w.1) refl);
  takes = λ ts a rest short w. rw (w.0, w.1) (omega arith);
  fronts = λ ts a rest short w. w.1 ∙ sym w.0;
  stays = λ ts rest short f. inl (rw f (less ts));
  deeps = λ same ts rest short h. absurd h;
} where
  reads : (ts : List Token) (a : Unit {0}) (rest : List Token) → r.end ts ≡ got a rest → g.end.Whole ts a rest
  reads [] a rest e = let s = got-same e in (refl, sym s.1)
  reads (t ∷ ts) a rest e = absurd (let no : ⊥ = cc in no)

  stops : (ts rest : List Token) → r.end ts ≡ dead rest → rest ≡ ts
  stops [] rest e = absurd (let no : ⊥ = cc in no)
  stops (t ∷ ts) rest e = sym (dead-same e)

  no_sink : (ts rest : List Token) → r.end ts ≡ too_deep rest → ⊥
  no_sink [] rest e = let no : ⊥ = cc in no
  no_sink (t ∷ ts) rest e = let no : ⊥ = cc in no

  suffix : (ts : List Token) → (before : List Token) × (ts ≡ before ++ left (r.end ts))
  suffix [] = ([], refl)
  suffix (t ∷ ts) = ([], refl)

  less : (ts : List Token) → length (left (r.end ts)) ≤ length ts
  less [] = omega arith
  less (t ∷ ts) = omega arith

-- Alternatives.

pub choose-exact : {A : Type 0} {f : List Token → Bool} {d n least bound : ℕ} {p p' q q' : Part A} {first second : Reader A} (test : List Token → Bool)
    → Exact f d n least bound p p' first → Exact f d n least bound q q' second → Shows test true p → Shows test false q
    → Exact f d n least bound (g.either p q) (g.either p' q') (r.choose test first second)
choose-exact {A} {f} {d} {n} {least} {bound} {p} {p'} {q} {q'} {first} {second} test x y does does_not = record {
  sound = λ ts a rest e. reads (test ts) ts a rest e;
  stops = λ ts rest e. stops (test ts) ts rest e;
  sinks = λ ts rest e. sinks (test ts) ts rest e;
  less = λ ts. less (test ts) ts;
  suffix = λ ts. suffix (test ts) ts;
  whole = λ ts a rest short w free. elim w [
    | inl u ↦ rw (does.whole ts a rest u) (x.whole ts a rest short u free)
    | inr v ↦ rw (does_not.whole ts a rest v) (y.whole ts a rest short v free)
  ];
  takes = λ ts a rest short w. elim w [ inl u ↦ x.takes ts a rest short u | inr v ↦ y.takes ts a rest short v ];
  fronts = λ ts a rest short w. elim w [ inl u ↦ inl (x.fronts ts a rest short u) | inr v ↦ inr (y.fronts ts a rest short v) ];
  stays = λ ts rest short h. elim h [
    | inl u ↦ elim (does.front ts rest u) [ inl e ↦ stays_all (cond (test ts) (first ts) (second ts)) ts rest e (less (test ts) ts) | inr k ↦ rw k (x.stays ts rest short u) ]
    | inr v ↦ elim (does_not.front ts rest v) [ inl e ↦ stays_all (cond (test ts) (first ts) (second ts)) ts rest e (less (test ts) ts) | inr k ↦ rw k (y.stays ts rest short v) ]
  ];
  deeps = λ same ts rest short h. elim h [
    | inl u ↦ rw (does.deep ts rest u) (x.deeps same ts rest short u)
    | inr v ↦ rw (does_not.deep ts rest v) (y.deeps same ts rest short v)
  ];
} where
  reads : (b : Bool) (ts : List Token) (a : A) (rest : List Token) → cond b (first ts) (second ts) ≡ got a rest → (g.either p' q').Whole ts a rest
  reads true ts a rest e = inl (x.sound ts a rest e)
  reads false ts a rest e = inr (y.sound ts a rest e)

  stops : (b : Bool) (ts rest : List Token) → cond b (first ts) (second ts) ≡ dead rest → (g.either p' q').Front ts rest
  stops true ts rest e = inl (x.stops ts rest e)
  stops false ts rest e = inr (y.stops ts rest e)

  sinks : (b : Bool) (ts rest : List Token) → cond b (first ts) (second ts) ≡ too_deep rest → (t : Token) × (after : List Token) × (rest ≡ t ∷ after) × (g.either p' q').Deep ts after
  sinks true ts rest e = let h = x.sinks ts rest e in (h.0, h.1, h.2, inl h.3)
  sinks false ts rest e = let h = y.sinks ts rest e in (h.0, h.1, h.2, inr h.3)

  suffix : (b : Bool) (ts : List Token) → (before : List Token) × (ts ≡ before ++ left (cond b (first ts) (second ts)))
  suffix true ts = x.suffix ts
  suffix false ts = y.suffix ts

  less : (b : Bool) (ts : List Token) → length (left (cond b (first ts) (second ts))) ≤ length ts
  less true ts = x.less ts
  less false ts = y.less ts

-- the label that the tokens ahead have is that of what stands there; a front of one part is one of the part with that label
pub record Told {L A : Type 0} (free : List Token → Bool) (label : List Token → Option L) (p : L → Part A) : Type 0 where
  pub whole : (l : L) (ts : List Token) (a : A) (rest : List Token) → (p l).Whole ts a rest → free rest ≡ true → label ts ≡ Some l
  pub front : (l : L) (ts rest : List Token) → (p l).Front ts rest → (rest ≡ ts) ⊎ ((m : L) × (label ts ≡ Some m) × (p m).Front ts rest)
  pub deep : (l : L) (ts rest : List Token) → (p l).Deep ts rest → label ts ≡ Some l

pub pick-exact : {L A : Type 0} {f : List Token → Bool} {d n least bound : ℕ} {p p' : L → Part A} {read : L → Reader A} (label : List Token → Option L)
    → ((l : L) → Exact f d n least bound (p l) (p' l) (read l)) → ((ts : List Token) → (g.one_of p').Front ts ts) → Told f label p
    → Exact f d n least bound (g.one_of p) (g.one_of p') (r.pick label read)
pick-exact {L} {A} {f} {d} {n} {least} {bound} {p} {p'} {read} label x empty told = record {
  sound = λ ts a rest e. reads (label ts) ts a rest e;
  stops = λ ts rest e. stops (label ts) ts rest e;
  sinks = λ ts rest e. sinks (label ts) ts rest e;
  less = λ ts. less (label ts) ts;
  suffix = λ ts. suffix (label ts) ts;
  whole = λ ts a rest short w free. rw (told.whole w.0 ts a rest w.1 free) ((x w.0).whole ts a rest short w.1 free);
  takes = λ ts a rest short w. (x w.0).takes ts a rest short w.1;
  fronts = λ ts a rest short w. (w.0, (x w.0).fronts ts a rest short w.1);
  stays = λ ts rest short h. elim (told.front h.0 ts rest h.1) [
    | inl e ↦ stays_all (r.pick_by (label ts) read ts) ts rest e (less (label ts) ts)
    | inr m ↦ rw m.1 ((x m.0).stays ts rest short m.2)
  ];
  deeps = λ same ts rest short h. rw (told.deep h.0 ts rest h.1) ((x h.0).deeps same ts rest short h.1);
} where
  reads : (o : Option L) (ts : List Token) (a : A) (rest : List Token) → r.pick_by o read ts ≡ got a rest → (g.one_of p').Whole ts a rest
  reads None ts a rest e = absurd (let no : ⊥ = cc in no)
  reads (Some l) ts a rest e = (l, (x l).sound ts a rest e)

  stops : (o : Option L) (ts rest : List Token) → r.pick_by o read ts ≡ dead rest → (g.one_of p').Front ts rest
  stops None ts rest e = subst (λ us. (g.one_of p').Front ts us) (dead-same e) (empty ts)
  stops (Some l) ts rest e = (l, (x l).stops ts rest e)

  sinks : (o : Option L) (ts rest : List Token) → r.pick_by o read ts ≡ too_deep rest → (t : Token) × (after : List Token) × (rest ≡ t ∷ after) × (g.one_of p').Deep ts after
  sinks None ts rest e = absurd (let no : ⊥ = cc in no)
  sinks (Some l) ts rest e = let h = (x l).sinks ts rest e in (h.0, h.1, h.2, (l, h.3))

  suffix : (o : Option L) (ts : List Token) → (before : List Token) × (ts ≡ before ++ left (r.pick_by o read ts))
  suffix None ts = ([], refl)
  suffix (Some l) ts = (x l).suffix ts

  less : (o : Option L) (ts : List Token) → length (left (r.pick_by o read ts)) ≤ length ts
  less None ts = omega arith
  less (Some l) ts = (x l).less ts

-- What never stands.

-- no tokens are an occurrence, and only no tokens are a front
pub record IsNothing {A : Type 0} (depth depth' : ℕ) (p : Part A) : Type 0 where
  pub whole : (ts : List Token) (a : A) (rest : List Token) → p.Whole ts a rest → ⊥
  pub front : (ts rest : List Token) → p.Front ts rest → rest ≡ ts
  pub deep : depth ≡ depth' → (ts rest : List Token) → p.Deep ts rest → ⊥

pub never_is : {A : Type 0} (d n : ℕ) → IsNothing d n (g.never {A = A})
never_is d n = record { whole = λ ts a rest w. w; front = λ ts rest e. e; deep = λ same ts rest h. h }

pub too_deep_is : {A : Type 0} (n : ℕ) (p : Part A) → IsNothing zero (suc n) (g.too_deep p)
too_deep_is n p = record { whole = λ ts a rest w. w; front = λ ts rest e. e; deep = λ same ts rest h. omega arith }

-- the smaller part may be one that never stands
pub from_nothing : {A : Type 0} {f : List Token → Bool} {d n least bound : ℕ} {p q : Part A} {reader : Reader A} (d' n' : ℕ) (p' : Part A) → IsNothing d' n' p' → Exact f d n least bound p q reader → Exact f d' n' least bound p' q reader
from_nothing {reader} d' n' p' none x = record {
  sound = x.sound;
  stops = x.stops;
  sinks = x.sinks;
  less = x.less;
  suffix = x.suffix;
  whole = λ ts a rest short w free. absurd (none.whole ts a rest w);
  takes = λ ts a rest short w. absurd (none.whole ts a rest w);
  fronts = λ ts a rest short w. absurd (none.whole ts a rest w);
  stays = λ ts rest short h. stays_all (reader ts) ts rest (none.front ts rest h) (x.less ts);
  deeps = λ same ts rest short h. absurd (none.deep same ts rest h);
}

-- a part that never stands is read by what never reads
pub refuse-exact : {A : Type 0} {d n : ℕ} (f : List Token → Bool) (least bound : ℕ) → Exact f d n least bound (g.never {A = A}) g.never r.refuse
refuse-exact f least bound = record {
  sound = λ ts a rest e. absurd (let no : ⊥ = cc in no);
  stops = λ ts rest e. sym (dead-same e);
  sinks = λ ts rest e. absurd (let no : ⊥ = cc in no);
  less = λ ts. omega arith;
  suffix = λ ts. ([], refl);
  whole = λ ts a rest short w free. absurd w;
  takes = λ ts a rest short w. absurd w;
  fronts = λ ts a rest short w. absurd w;
  stays = λ ts rest short h. inl (rw h (omega arith));
  deeps = λ same ts rest short h. absurd h;
}

-- the tokens that begin a part are those that are a front of it
pub record Opens {A : Type 0} (begins : List Token → Bool) (p : Part A) : Type 0 where
  pub at_end : begins [] ≡ false
  pub front : (t : Token) (ts : List Token) → begins (t ∷ ts) ≡ true → p.Front (t ∷ ts) ts

-- what a reader answers where nothing may be nested any more
module _ {A : Type 0} (level : Part A) (begins : List Token → Bool) (opens : Opens begins level) where
  brink_reads : (b : Bool) (ts : List Token) (a : A) (rest : List Token) → cond b (Outcome.too_deep ts) (dead ts) ≡ got a rest → ⊥
  brink_reads true ts a rest e = let no : ⊥ = cc in no
  brink_reads false ts a rest e = let no : ⊥ = cc in no

  brink_stops : (b : Bool) (ts rest : List Token) → cond b (too_deep_of A ts) (dead ts) ≡ dead rest → rest ≡ ts
  brink_stops true ts rest e = absurd (let no : ⊥ = cc in no)
  brink_stops false ts rest e = sym (dead-same e)

  brink_sinks_by : (b : Bool) (ts rest : List Token) → begins ts ≡ b → cond b (too_deep_of A ts) (dead ts) ≡ too_deep rest → (t : Token) × (after : List Token) × (rest ≡ t ∷ after) × (g.too_deep level).Deep ts after
  brink_sinks_by false ts rest h e = absurd (let no : ⊥ = cc in no)
  brink_sinks_by true [] rest h e = let k = opens.at_end in absurd (let no : ⊥ = cc in no)
  brink_sinks_by true (t ∷ ts) rest h e = (t, ts, sym (deep-same e), (t, refl, opens.front t ts h))

  brink_suffix : (b : Bool) (ts : List Token) → (before : List Token) × (ts ≡ before ++ left (cond b (too_deep_of A ts) (dead ts)))
  brink_suffix true ts = ([], refl)
  brink_suffix false ts = ([], refl)

  brink_less : (b : Bool) (ts : List Token) → length (left (cond b (too_deep_of A ts) (dead ts))) ≤ length ts
  brink_less true ts = omega arith
  brink_less false ts = omega arith

  -- a part of some depth, where the reader's is zero
  pub brink-over : {f : List Token → Bool} {d d' n least bound : ℕ} {p q : Part A} {reader : Reader A} → Shows begins true p → Exact f d' n least bound p q reader → Exact f (suc d) zero least bound p (g.too_deep level) (r.brink begins)
  brink-over {d} shows x = record {
    sound = λ ts a rest e. absurd (brink_reads (begins ts) ts a rest e);
    stops = λ ts rest e. brink_stops (begins ts) ts rest e;
    sinks = λ ts rest e. brink_sinks_by (begins ts) ts rest refl e;
    less = λ ts. brink_less (begins ts) ts;
    suffix = λ ts. brink_suffix (begins ts) ts;
    whole = λ ts a rest short w free. inr (omega arith, rw (shows.whole ts a rest w) tt);
    takes = x.takes;
    fronts = x.fronts;
    stays = λ ts rest short h. elim (shows.front ts rest h) [ inl e ↦ stays_all (r.brink begins ts) ts rest e (brink_less (begins ts) ts) | inr k ↦ inr (omega arith, rw k tt) ];
    deeps = λ same ts rest short h. absurd (omega arith);
  }

  pub brink-exact : (f : List Token → Bool) (least bound : ℕ) → Shows begins true level → Exact f zero zero least bound (g.too_deep level) (g.too_deep level) (r.brink begins)
  brink-exact f least bound shows = record {
    sound = λ ts a rest e. absurd (brink_reads (begins ts) ts a rest e);
    stops = λ ts rest e. brink_stops (begins ts) ts rest e;
    sinks = λ ts rest e. brink_sinks_by (begins ts) ts rest refl e;
    less = λ ts. brink_less (begins ts) ts;
    suffix = λ ts. brink_suffix (begins ts) ts;
    whole = λ ts a rest short w free. absurd w;
    takes = λ ts a rest short w. absurd w;
    fronts = λ ts a rest short w. absurd w;
    stays = λ ts rest short h. inl (rw h (brink_less (begins ts) ts));
    deeps = λ same ts rest short h. elim (shows.front ts rest h.2) [
      | inl e ↦ let k : length rest ≡ length (h.0 ∷ rest) = ap length (e ∙ h.1) in absurd (omega arith)
      | inr k ↦ (ts, rw k refl, rw h.1 (omega arith))
    ];
  }

pub chosen-exact : {A : Type 0} {f : List Token → Bool} {d n least bound : ℕ} {p p' : Part A} {reader : Reader A} (b : Bool) → Exact f d n least bound p p' reader → Exact f d n least bound (g.chosen b p g.never) (g.chosen b p' g.never) (r.chosen b reader r.refuse)
chosen-exact true x = x
chosen-exact {f} {least} {bound} false x = refuse-exact f least bound

-- Spans.

-- what a spanned part stands for
pub record Spans {A B : Type 0} (make : A → Span → B) (p : Part A) (ts : List Token) (b : B) (rest : List Token) : Type 0 where
  pub value : A
  pub stands : p.Whole ts value rest
  pub made : b ≡ make value (g.span_between ts rest)

pub spans : {A B : Type 0} (make : A → Span → B) (p : Part A) (ts : List Token) (b : B) (rest : List Token) → (g.spanned make p).Whole ts b rest → Spans make p ts b rest
spans make p ts b rest w =
    let last : w.3.1 ≡ rest = sym (w.3.3.3.1 ∙ w.3.3.2.1) in
    record {
      value = w.3.0;
      stands = subst (λ us. p.Whole us w.3.0 rest) w.2.1 (subst (λ us. p.Whole w.1 w.3.0 us) last w.3.2);
      made = w.3.3.3.0 ∙ rw (w.2.0, w.3.3.2.0, last) refl;
    }

-- a front of a spanned part has no tokens, or is a front of the part, or the whole of it
pub spans_front : {A B : Type 0} (make : A → Span → B) (p : Part A) (ts rest : List Token) → (g.spanned make p).Front ts rest → (rest ≡ ts) ⊎ (p.Front ts rest ⊎ ((a : A) × p.Whole ts a rest))
spans_front make p ts rest h = elim h [
  | inl e ↦ inl e
  | inr u ↦ elim u.3 [
    | inl f ↦ inr (inl (subst (λ us. p.Front us rest) u.2.1 f))
    | inr v ↦
        let start : v.1 ≡ rest = elim v.3 [ inl e ↦ sym e | inr z ↦ sym (z.3 ∙ z.2.1) ] in
        inr (inr (v.0, subst (λ us. p.Whole us v.0 rest) u.2.1 (subst (λ us. p.Whole u.1 v.0 us) start v.2)))
  ]
]

pub spans_deep : {A B : Type 0} (make : A → Span → B) (p : Part A) (ts rest : List Token) → (g.spanned make p).Deep ts rest → p.Deep ts rest
spans_deep make p ts rest h = elim h [
  | inl u ↦ absurd u
  | inr u ↦ elim u.3 [
    | inl f ↦ subst (λ us. p.Deep us rest) u.2.1 f
    | inr v ↦ absurd (elim v.3 [ inl e ↦ e | inr z ↦ z.3 ])
  ]
]

pub shows_spanned : {A B V : Type 0} {test : List Token → V} {answer : V} (make : A → Span → B) (p : Part A) → Shows test answer p → Shows test answer (g.spanned make p)
shows_spanned make p s = record {
  whole = λ ts b rest w. let v = spans make p ts b rest w in s.whole ts v.value rest v.stands;
  front = λ ts rest h. elim (spans_front make p ts rest h) [ inl e ↦ inl e | inr u ↦ elim u [ inl f ↦ s.front ts rest f | inr w ↦ inr (s.whole ts w.0 rest w.1) ] ];
  deep = λ ts rest h. s.deep ts rest (spans_deep make p ts rest h);
}

pub spanned_front : {A B : Type 0} (make : A → Span → B) (p : Part A) (ts rest : List Token) → p.Front ts rest → (g.spanned make p).Front ts rest
spanned_front make p ts rest f = inr (ts, ts, (refl, refl), inl f)

pub spanned-exact : {A B : Type 0} {f : List Token → Bool} {d n least bound : ℕ} {p p' : Part A} {reader : Reader A} (make : A → Span → B) → Exact f d n least bound p p' reader → Exact f d n least bound (g.spanned make p) (g.spanned make p') (r.spanned make reader)
spanned-exact {A} {B} {f} {d} {n} {least} {bound} {p} {p'} {reader} make x = record {
  sound = λ ts b rest e. let s = steps (reader ts) (ending ts) b rest e in let m = got-same s.gives in reads ts b rest s.value s.middle (x.sound ts s.value s.middle s.was) m.0 m.1;
  stops = λ ts rest e. elim (dead_steps (reader ts) (ending ts) rest e) [
    | inl u ↦ spanned_front make p' ts rest (x.stops ts rest u)
    | inr s ↦ let k = s.gives in absurd (let no : ⊥ = cc in no)
  ];
  sinks = λ ts rest e. elim (deep_steps (reader ts) (ending ts) rest e) [
    | inl u ↦ let h = x.sinks ts rest u in (h.0, h.1, h.2, inr (ts, ts, (refl, refl), inl h.3))
    | inr s ↦ let k = s.gives in absurd (let no : ⊥ = cc in no)
  ];
  less = λ ts. let h = less_then (reader ts) (ending ts) (λ a us. ending_less ts a us) in let k = x.less ts in omega arith;
  suffix = λ ts. suffix_then (reader ts) (ending ts) (λ a us. ([], refl)) ts (x.suffix ts);
  whole = λ ts b rest short w free. let s = spans make p ts b rest w in reads_then d n (reader ts) (ending ts) s.value rest b rest (x.whole ts s.value rest short s.stands free) (inl (ap (λ y. got y rest) (sym s.made)));
  takes = λ ts b rest short w. let s = spans make p ts b rest w in x.takes ts s.value rest short s.stands;
  fronts = λ ts b rest short w. let s = spans make p ts b rest w in spanned_front make p ts rest (x.fronts ts s.value rest short s.stands);
  stays = λ ts rest short h. elim (spans_front make p ts rest h) [
    | inl e ↦ stays_then d n (reader ts) (ending ts) rest (λ a us. ending_less ts a us) (stays_all (reader ts) ts rest e (x.less ts))
    | inr u ↦ stays_then d n (reader ts) (ending ts) rest (λ a us. ending_less ts a us) (x.stays ts rest short (elim u [ inl v ↦ v | inr w ↦ x.fronts ts w.0 rest short w.1 ]))
  ];
  deeps = λ same ts rest short h. sinks_then (reader ts) (ending ts) rest (x.deeps same ts rest short (spans_deep make p ts rest h));
} where
  ending : List Token → A → Reader B
  ending ts a after = got (make a (g.span_between ts after)) after

  ending_less : (ts : List Token) (a : A) (us : List Token) → length (left (ending ts a us)) ≤ length us
  ending_less ts a us = omega arith

  reads : (ts : List Token) (b : B) (rest : List Token) (a : A) (middle : List Token) → p'.Whole ts a middle → make a (g.span_between ts middle) ≡ b → middle ≡ rest → (g.spanned make p').Whole ts b rest
  reads ts b rest a middle w is same = (ts, ts, (refl, refl), (a, middle, w, (middle, middle, (refl, refl), (sym is, sym same))))

-- Repetitions.

-- a reader that has no turn left
pub no_turn : {A : Type 0} {d n : ℕ} (f : List Token → Bool) (least : ℕ) (p : Part A) → Exact f d n least zero p g.never r.refuse
no_turn f least p = record {
  sound = λ ts a rest e. absurd (let no : ⊥ = cc in no);
  stops = λ ts rest e. sym (dead-same e);
  sinks = λ ts rest e. absurd (let no : ⊥ = cc in no);
  less = λ ts. omega arith;
  suffix = λ ts. ([], refl);
  whole = λ ts a rest short w free. absurd (omega arith);
  takes = λ ts a rest short w. absurd (omega arith);
  fronts = λ ts a rest short w. absurd (omega arith);
  stays = λ ts rest short h. absurd (omega arith);
  deeps = λ same ts rest short h. absurd (omega arith);
}

-- repetitions of which each turn keeps a property: a turn that is exact over what is exact on shorter lists
pub kept-exact : {X A : Type 0} {f : List Token → Bool} {d n least : ℕ} {turn turn' : (X → Part A) → X → Part A} {read : (X → Reader A) → X → Reader A} (Keeps : Part A → Type 0)
    → Keeps g.never → ((p : X → Part A) → ((x : X) → Keeps (p x)) → (x : X) → Keeps (turn p x))
    → ((bound : ℕ) (p p' : X → Part A) (reader : X → Reader A) → ((x : X) → Keeps (p x)) → ((x : X) → Exact f d n least bound (p x) (p' x) (reader x)) → (x : X) → Exact f d n least (suc bound) (turn p x) (turn' p' x) (read reader x))
    → (count bound : ℕ) (x : X) → Exact f d n least bound (g.turns turn count x) (g.turns turn' bound x) (r.turns read bound x)
unfolding r.turns
kept-exact {f} {least} {turn} Keeps none turns step count zero x = no_turn f least (g.turns turn count x)
kept-exact {d} {n} {turn} {turn'} {read} Keeps none turns step zero (suc bound) x = from_nothing d n g.never (never_is d n) (step bound (g.turns turn zero) (g.turns turn' bound) (r.turns read bound) (λ y. none) (kept-exact Keeps none turns step zero bound) x)
kept-exact {turn} {turn'} {read} Keeps none turns step (suc count) (suc bound) x = step bound (g.turns turn count) (g.turns turn' bound) (r.turns read bound) (keeps count) (kept-exact Keeps none turns step count bound) x where
  keeps : (m : ℕ) (y : _) → Keeps (g.turns turn m y)
  keeps zero y = none
  keeps (suc m) y = turns (g.turns turn m) (keeps m) y

pub keeping-exact : {X A : Type 0} {f : List Token → Bool} {d n least : ℕ} {turn turn' : (X → Part A) → X → Part A} {read : (X → Reader A) → X → Reader A} (Keeps : Part A → Type 0)
    → Keeps g.never → ((p : X → Part A) → ((x : X) → Keeps (p x)) → (x : X) → Keeps (turn p x))
    → ((bound : ℕ) (p p' : X → Part A) (reader : X → Reader A) → ((x : X) → Keeps (p x)) → ((x : X) → Exact f d n least bound (p x) (p' x) (reader x)) → (x : X) → Exact f d n least (suc bound) (turn p x) (turn' p' x) (read reader x))
    → (bound : ℕ) (x : X) → Exact f d n least bound (g.turning turn x) (g.turning turn' x) (r.turning read x)
keeping-exact {X} {A} {f} {d} {n} {least} {turn} {turn'} {read} Keeps none turns step bound x = record {
  sound = λ ts a rest e. (suc (length ts), (at ts zero).sound ts a rest e);
  stops = λ ts rest e. (suc (length ts), (at ts zero).stops ts rest e);
  sinks = λ ts rest e. let h = (at ts zero).sinks ts rest e in (h.0, h.1, h.2, (suc (length ts), h.3));
  less = λ ts. (at ts zero).less ts;
  suffix = λ ts. (at ts zero).suffix ts;
  whole = λ ts a rest short w free. (at ts w.0).whole ts a rest (omega arith) w.1 free;
  takes = λ ts a rest short w. (at ts w.0).takes ts a rest (omega arith) w.1;
  fronts = λ ts a rest short w. (w.0, (at ts w.0).fronts ts a rest (omega arith) w.1);
  stays = λ ts rest short h. (at ts h.0).stays ts rest (omega arith) h.1;
  deeps = λ same ts rest short h. (at ts h.0).deeps same ts rest (omega arith) h.1;
} where
  at : (ts : List Token) (count : ℕ) → Exact f d n least (suc (length ts)) (g.turns turn count x) (g.turns turn' (suc (length ts)) x) (r.turns read (suc (length ts)) x)
  at ts count = kept-exact Keeps none turns step count (suc (length ts)) x

pub turning-exact : {X A : Type 0} {f : List Token → Bool} {d n least : ℕ} {turn turn' : (X → Part A) → X → Part A} {read : (X → Reader A) → X → Reader A}
    → ((bound : ℕ) (p p' : X → Part A) (reader : X → Reader A) → ((x : X) → Exact f d n least bound (p x) (p' x) (reader x)) → (x : X) → Exact f d n least (suc bound) (turn p x) (turn' p' x) (read reader x))
    → (bound : ℕ) (x : X) → Exact f d n least bound (g.turning turn x) (g.turning turn' x) (r.turning read x)
turning-exact step bound x = keeping-exact (λ p. Unit {0}) tt (λ p h y. tt) (λ b p p' reader keeps h y. step b p p' reader h y) bound x

-- the place before some tokens, and then a part
pub here-then : {B : Type 0} {f : List Token → Bool} {d n least bound : ℕ} {q q' : List Token → Part B} {then : List Token → Reader B}
    → ((a : List Token) → Exact f d n least (bound - 0) (q a) (q' a) (then a)) → Exact f d n least bound (g.◌>>=◌ g.here q) (g.◌>>=◌ g.here q') (r.◌>>=◌ r.here then)
here-then {f} {least} {bound} {q} y = at_least least (omega arith) (after-exact (here-exact bound) y (λ a. free_anything f (q a)))

-- one of two parts, each read where the test says so
pub chosen-both : {A : Type 0} {f : List Token → Bool} {d n least bound : ℕ} {p p' q q' : Part A} {first second : Reader A} (b : Bool) → Exact f d n least bound p p' first → Exact f d n least bound q q' second → Exact f d n least bound (g.chosen b p q) (g.chosen b p' q') (r.chosen b first second)
chosen-both true x y = x
chosen-both false x y = y
