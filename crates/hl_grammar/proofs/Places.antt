-- Where readers stop is where the grammar says.
use Rattle.std.proofs.Common.{◌≡◌, ℕ, suc, ◌+◌, ◌<◌, ◌≤◌, List, [], ◌∷◌, ◌++◌, length, refl, sym, ap, subst, ◌∙◌, ◌⊎◌, inl, inr, arith, length-append}
use Rattle.std.proofs.lemmas.List.{append-nil, append_assoc, append_cancel_right}
use Rattle.hl_syntax.specs.declared.token.Span.{Span}
use Rattle.hl_syntax.specs.declared.token.Token.{Token}
use Rattle.simplicityhl.specs.Parts.{Part}
use Rattle.simplicityhl.specs.Grammar.{most_depth, Stands, Is}
use Rattle.simplicityhl.specs.Viable.{IsViable, IsDeep, IsShallow, DiesAt, IsDeadPlace, IsFirstDeep, IsSyntaxError, place}
use Rattle.hl_grammar.specs.Readers.{Outcome, Reader, got, dead, too_deep, and_then, whole}
use Rattle.hl_grammar.specs.Readers as r
use Rattle.hl_grammar.specs.Laws.{HasFronts}
use Rattle.hl_grammar.proofs.Exact.{Exact, IsTooDeep, left, got-same, dead-same, deep-same}
use Rattle.hl_grammar.proofs.Tokens.{calm}
use Rattle.hl_grammar.proofs.Alike.{Regular, Ending, Cut, in_first, in_second, cut, heads}
use Rattle.hl_grammar.proofs.Whole.{ended, read_of}

-- a front of a part of one depth: so many tokens, each beginning of which is a front whatever follows, and which can be completed
pub record Opened {A : Type 0} (part : ℕ → Part A) (depth : ℕ) (ts rest : List Token) : Type 0 where
  pub tokens : List Token
  pub are : ts ≡ tokens ++ rest
  pub begun : (us vs : List Token) → tokens ≡ us ++ vs → (more : List Token) → (part depth).Front (us ++ more) more
  pub tail : List Token
  pub complete : (tree : A) × (part (suc depth)).Whole (tokens ++ tail) tree []

-- what is nested too deep at one depth: so many tokens, whatever follows, which are a front at the next depth
pub record Sunk {A : Type 0} (part : ℕ → Part A) (depth : ℕ) (ts rest : List Token) : Type 0 where
  pub tokens : List Token
  pub are : ts ≡ tokens ++ rest
  pub again : (more : List Token) → (part depth).Deep (tokens ++ more) more
  pub fronts : (more : List Token) → (part (suc depth)).Front (tokens ++ more) more

-- a part of the grammar with its reader, at all depths
pub record Readable {A : Type 0} (least : ℕ) (part : ℕ → Part A) (reader : ℕ → Reader A) : Type 0 where
  pub exact : (depth depth' bound : ℕ) → Exact calm depth depth' least bound (part depth) (part depth') (reader depth')
  pub front : (depth : ℕ) (ts rest : List Token) → (part depth).Front ts rest → Opened part depth ts rest
  pub deep : (depth : ℕ) (ts rest : List Token) → (part depth).Deep ts rest → Sunk part depth ts rest

pub by_regular : {A : Type 0} {least : ℕ} (part : ℕ → Part A) (reader : ℕ → Reader A) → ((depth depth' bound : ℕ) → Exact calm depth depth' least bound (part depth) (part depth') (reader depth')) → ((depth : ℕ) → Regular (part depth) (part (suc depth))) → Readable least part reader
by_regular part reader exact regular = record {
  exact = exact;
  front = λ depth ts rest f. let h = (regular depth).alike.front tt ts rest f in record { tokens = h.tokens; are = h.are; begun = λ us vs e more. h.begun us vs e tt tt more; tail = h.tail ++ []; complete = h.complete tt tt [] };
  deep = λ depth ts rest d. let h = (regular depth).alike.deep tt ts rest d in record { tokens = h.tokens; are = h.are; again = λ more. h.again tt tt more; fronts = λ more. h.fronts tt tt more };
}

-- the same of a part that ends with all tokens, one of a family
pub by_ending : {X A : Type 0} {least : ℕ} (parts : ℕ → X → Part A) (x : X) (reader : ℕ → Reader A) → ((depth depth' bound : ℕ) → Exact calm depth depth' least bound (parts depth x) (parts depth' x) (reader depth')) → ((depth : ℕ) → Ending (parts depth) (parts (suc depth))) → Readable least (λ depth. parts depth x) reader
by_ending parts x reader exact ending = record {
  exact = exact;
  front = λ depth ts rest f. let h = (ending depth).front x ts rest f in record { tokens = h.tokens; are = h.are; begun = λ us vs e more. h.begun us vs e x more; tail = h.tail; complete = h.complete x };
  deep = λ depth ts rest d. let h = (ending depth).deep x ts rest d in record { tokens = h.tokens; are = h.are; again = λ more. h.again x tt more; fronts = λ more. h.fronts x tt more };
}

-- What whole readers answer.

whole_dead : {A : Type 0} (o : Outcome A) (rest : List Token) → and_then o (λ b us. and_then (r.end us) (λ _ vs. got b vs)) ≡ dead rest → (o ≡ dead rest) ⊎ ((a : A) × (t : Token) × (us : List Token) × (o ≡ got a (t ∷ us)) × (rest ≡ t ∷ us))
whole_dead (got b []) rest e = absurd (let no : ⊥ = cc in no)
whole_dead (got b (t ∷ us)) rest e = inr (b, t, us, refl, sym (dead-same e))
whole_dead (dead us) rest e = inl (ap (λ vs. dead vs) (dead-same e))
whole_dead (too_deep us) rest e = absurd (let no : ⊥ = cc in no)

whole_deep : {A : Type 0} (o : Outcome A) (rest : List Token) → and_then o (λ b us. and_then (r.end us) (λ _ vs. got b vs)) ≡ too_deep rest → o ≡ too_deep rest
whole_deep (got b []) rest e = absurd (let no : ⊥ = cc in no)
whole_deep (got b (t ∷ us)) rest e = absurd (let no : ⊥ = cc in no)
whole_deep (dead us) rest e = absurd (let no : ⊥ = cc in no)
whole_deep (too_deep us) rest e = ap (λ vs. too_deep vs) (deep-same e)

got_not_deep : {A : Type 0} (o : Outcome A) (a : A) (rest : List Token) → o ≡ got a rest → IsTooDeep o → ⊥
got_not_deep o a rest e h = subst (λ x. IsTooDeep x) e h

dead_not_deep : {A : Type 0} (o : Outcome A) (rest : List Token) → o ≡ dead rest → IsTooDeep o → ⊥
dead_not_deep o rest e h = subst (λ x. IsTooDeep x) e h

not_shorter : (t : Token) (us vs : List Token) → us ≡ t ∷ vs → length us ≤ length vs → ⊥
not_shorter t us vs e h = let k : length us ≡ suc (length vs) = ap length e in omega arith

-- two cuts of one list at the same length
same_token : (us vs : List Token) (t u : Token) (ts rest : List Token) → us ++ t ∷ ts ≡ vs ++ u ∷ rest → length us ≡ length vs → t ≡ u
same_token [] [] t u ts rest e h = (heads e).0
same_token [] (v ∷ vs) t u ts rest e h = absurd (omega arith)
same_token (x ∷ us) [] t u ts rest e h = absurd (omega arith)
same_token (x ∷ us) (v ∷ vs) t u ts rest e h = same_token us vs t u ts rest (heads e).1 (omega arith)

module _ {A : Type 0} {least : ℕ} (part : ℕ → Part A) (reader : ℕ → Reader A) (x : Readable least part reader) where
  -- What is said of tokens alone.

  all_of : (ts tokens : List Token) → ts ≡ tokens ++ [] → tokens ≡ ts
  all_of ts tokens e = sym (e ∙ append-nil tokens)

  front_before : (depth : ℕ) (us more : List Token) → (part depth).Front us [] → (part depth).Front (us ++ more) more
  front_before depth us more f =
      let h = x.front depth us [] f in
      subst (λ l. (part depth).Front (l ++ more) more) (all_of us h.tokens h.are) (h.begun h.tokens [] (sym (append-nil h.tokens)) more)

  deep_before : (us more : List Token) → IsDeep part us → (part most_depth).Deep (us ++ more) more
  deep_before us more d =
      let h = x.deep most_depth us [] d.is in
      subst (λ l. (part most_depth).Deep (l ++ more) more) (all_of us h.tokens h.are) (h.again more)

  beginnings : (us vs : List Token) → IsViable part (us ++ vs) → IsViable part us
  beginnings us vs v =
      let h = x.front v.0 (us ++ vs) [] v.1 in
      (v.0, subst (λ l. (part v.0).Front l []) (append-nil us) (h.begun us vs (all_of (us ++ vs) h.tokens h.are) []))

  begun : (us vs : List Token) (tree : A) → Is part (us ++ vs) tree → IsViable part us
  begun us vs tree w = beginnings us vs (w.0, (x.exact w.0 w.0 (suc (length (us ++ vs)))).fronts (us ++ vs) tree [] (omega arith) w.1.is)

  completed : (ts : List Token) → IsViable part ts → (more : List Token) × (tree : A) × Is part (ts ++ more) tree
  completed ts v =
      let h = x.front v.0 ts [] v.1 in
      (h.tail, h.complete.0, (suc v.0, record { is = subst (λ l. (part (suc v.0)).Whole (l ++ h.tail) h.complete.0 []) (all_of ts h.tokens h.are) h.complete.1 }))

  deep_is_viable : (ts : List Token) → IsDeep part ts → IsViable part ts
  deep_is_viable ts d =
      let h = x.deep most_depth ts [] d.is in
      (suc most_depth, subst (λ l. (part (suc most_depth)).Front l []) (append-nil h.tokens ∙ all_of ts h.tokens h.are) (h.fronts []))

  one_place : (ts : List Token) (end : ℕ) (at at' : Span) → IsDeadPlace part ts end at → IsDeadPlace part ts end at' → at ≡ at'
  one_place ts end at at' y z = by_cut (cut y.before y.after z.before z.after (sym y.are ∙ z.are)) where
    -- one of them isn't before the other
    apart : (before after before' after' zs : List Token) → before' ≡ before ++ zs → after ≡ zs ++ after' → DiesAt part before after → ((us vs : List Token) → before' ≡ us ++ vs → IsViable part us) → after ≡ after'
    apart before after before' after' [] e h dies viable = h
    apart before after before' after' (t ∷ zs) e h dies viable = absurd (subst (λ l. DiesAt part before l) h dies (viable (before ++ t ∷ []) zs (e ∙ sym (append_assoc before (t ∷ []) zs))))

    by_cut : Cut y.before y.after z.before z.after → at ≡ at'
    by_cut (in_second zs e h) = y.is ∙ ap (λ l. place l end) (apart y.before y.after z.before z.after zs e h y.dies z.viable) ∙ sym z.is
    by_cut (in_first zs e h) = y.is ∙ ap (λ l. place l end) (sym (apart z.before z.after y.before y.after zs e h z.dies y.viable)) ∙ sym z.is

  one_first : (ts : List Token) (at at' : Span) → IsFirstDeep part ts at → IsFirstDeep part ts at' → at ≡ at'
  one_first ts at at' y z =
      let h = y.first (z.before ++ z.token ∷ []) z.after (z.are ∙ sym (append_assoc z.before (z.token ∷ []) z.after)) z.deep in
      let k = z.first (y.before ++ y.token ∷ []) y.after (y.are ∙ sym (append_assoc y.before (y.token ∷ []) y.after)) y.deep in
      let m : length (z.before ++ z.token ∷ []) ≡ length z.before + 1 = length-append z.before (z.token ∷ []) in
      let n : length (y.before ++ y.token ∷ []) ≡ length y.before + 1 = length-append y.before (y.token ∷ []) in
      y.is ∙ ap (λ t. t.span) (same_token y.before z.before y.token z.token y.after z.after (sym y.are ∙ z.are) (omega arith)) ∙ sym z.is

  -- What a reader's answers say.

  at_top : (ts : List Token) → Exact calm most_depth most_depth least (suc (length ts)) (part most_depth) (part most_depth) (reader most_depth)
  at_top ts = x.exact most_depth most_depth (suc (length ts))

  shallow : (ts : List Token) → (IsTooDeep (reader most_depth ts) → ⊥) → IsShallow part ts
  shallow ts not_deep us vs e d =
      let s = (at_top ts).deeps refl ts vs (omega arith) (subst (λ l. (part most_depth).Deep l vs) (sym e) (deep_before us vs d)) in
      not_deep (subst (λ o. IsTooDeep o) (sym s.1) tt)

  -- a reader goes on through viable tokens
  goes_on : (ts us after : List Token) → (IsTooDeep (reader most_depth ts) → ⊥) → ts ≡ us ++ after → IsViable part us → length (left (reader most_depth ts)) ≤ length after
  goes_on ts us after not_deep e v =
      elim ((x.exact v.0 most_depth (suc (length ts))).stays ts after (omega arith) (subst (λ l. (part v.0).Front l after) (sym e) (front_before v.0 us after v.1))) [
        | inl h ↦ h
        | inr u ↦ absurd (not_deep u.1)
      ]

  -- a reader that stops before some tokens has gone through a front
  stopped : (ts rest : List Token) (end : ℕ) → (part most_depth).Front ts rest → left (reader most_depth ts) ≡ rest → (IsTooDeep (reader most_depth ts) → ⊥) → IsDeadPlace part ts end (place rest end)
  stopped ts rest end f e not_deep =
      let h = x.front most_depth ts rest f in
      record {
        before = h.tokens;
        after = rest;
        are = h.are;
        viable = λ us vs k. (most_depth, subst (λ l. (part most_depth).Front l []) (append-nil us) (h.begun us vs k []));
        dies = dies h.tokens rest h.are e;
        is = refl;
      }
    where
      dies : (tokens rest : List Token) → ts ≡ tokens ++ rest → left (reader most_depth ts) ≡ rest → DiesAt part tokens rest
      dies tokens [] are e = tt
      dies tokens (t ∷ after) are e = λ v. not_shorter t (left (reader most_depth ts)) after e (goes_on ts (tokens ++ t ∷ []) after not_deep (are ∙ sym (append_assoc tokens (t ∷ []) after)) v)

  -- no tree is found where reading stops
  no_tree : (ts : List Token) → (IsTooDeep (reader most_depth ts) → ⊥) → ((a : A) → reader most_depth ts ≡ got a [] → ⊥) → (tree : A) → Is part ts tree → ⊥
  no_tree ts not_deep not_got tree w = elim ((x.exact w.0 most_depth (suc (length ts))).whole ts tree [] (omega arith) w.1.is refl) [ inl e ↦ not_got tree e | inr u ↦ not_deep u.1 ]

  pub refused : (ts rest : List Token) (end : ℕ) → whole (reader most_depth) ts ≡ dead rest → IsSyntaxError part ts end (place rest end)
  refused ts rest end e = elim (whole_dead (reader most_depth ts) rest e) [
    | inl d ↦
        let not_deep : IsTooDeep (reader most_depth ts) → ⊥ = dead_not_deep (reader most_depth ts) rest d in
        record {
          none = no_tree ts not_deep (λ a g. let no : ⊥ = cc (d, g) in no);
          shallow = shallow ts not_deep;
          dead = stopped ts rest end ((at_top ts).stops ts rest d) (ap left d) not_deep;
        }
    | inr u ↦
        let not_deep : IsTooDeep (reader most_depth ts) → ⊥ = got_not_deep (reader most_depth ts) u.0 (u.1 ∷ u.2) u.3 in
        let f = (at_top ts).fronts ts u.0 (u.1 ∷ u.2) (omega arith) ((at_top ts).sound ts u.0 (u.1 ∷ u.2) u.3) in
        record {
          none = no_tree ts not_deep (λ a g. let s = got-same (sym u.3 ∙ g) in let k = s.1 in let no : ⊥ = cc in no);
          shallow = shallow ts not_deep;
          dead = subst (λ l. IsDeadPlace part ts end (place l end)) (sym u.4) (stopped ts (u.1 ∷ u.2) end f (ap left u.3) not_deep);
        }
  ]

  pub sunk : (ts rest : List Token) (end : ℕ) → whole (reader most_depth) ts ≡ too_deep rest → IsFirstDeep part ts (place rest end)
  sunk ts rest end e =
      let d : reader most_depth ts ≡ too_deep rest = whole_deep (reader most_depth ts) rest e in
      let s = (at_top ts).sinks ts rest d in
      let b = (at_top ts).suffix ts in
      let are : ts ≡ b.0 ++ s.0 ∷ s.1 = b.1 ∙ ap (λ l. b.0 ++ l) (ap left d ∙ s.2) in
      let h = x.deep most_depth ts s.1 s.3 in
      let tokens : h.tokens ≡ b.0 ++ s.0 ∷ [] = append_cancel_right h.tokens (b.0 ++ s.0 ∷ []) s.1 (sym h.are ∙ are ∙ sym (append_assoc b.0 (s.0 ∷ []) s.1)) in
      record {
        before = b.0;
        token = s.0;
        after = s.1;
        are = are;
        deep = record { is = subst (λ l. (part most_depth).Deep l []) (append-nil h.tokens ∙ tokens) (h.again []) };
        first = λ us vs k v. first us vs b.0 s.0 s.1 rest d s.2 are k v;
        is = ap (λ l. place l end) s.2;
      }
    where
      first : (us vs before : List Token) (t : Token) (after rest : List Token) → reader most_depth ts ≡ too_deep rest → rest ≡ t ∷ after → ts ≡ before ++ t ∷ after → ts ≡ us ++ vs → IsDeep part us → length before < length us
      first us vs before t after rest d e are k v =
          let s = (at_top ts).deeps refl ts vs (omega arith) (subst (λ l. (part most_depth).Deep l vs) (sym k) (deep_before us vs v)) in
          let same : length s.0 ≡ suc (length after) = ap length (deep-same (sym s.1 ∙ d) ∙ e) in
          let left_over : length before + suc (length after) ≡ length us + length vs = sym (length-append before (t ∷ after)) ∙ ap length (sym are ∙ k) ∙ length-append us vs in
          let later = s.2 in
          omega arith

  pub read_shallow : (ts : List Token) (a : A) (rest : List Token) → whole (reader most_depth) ts ≡ got a rest → IsShallow part ts
  read_shallow ts a rest e = shallow ts (got_not_deep (reader most_depth ts) a [] (ended (reader most_depth ts) a rest e))

  too_far : (us vs : List Token) (tree : A) → IsDeep part us → Stands part most_depth (us ++ vs) tree → ⊥
  too_far us vs tree d w =
      let e = read_of (us ++ vs) (at_top (us ++ vs)) (omega arith) tree w.is in
      shallow (us ++ vs) (got_not_deep (reader most_depth (us ++ vs)) tree [] e) us vs refl d

  pub read_tree : (ts : List Token) (a : A) (rest : List Token) → whole (reader most_depth) ts ≡ got a rest → Is part ts a
  read_tree ts a rest e = (most_depth, record { is = (at_top ts).sound ts a [] (ended (reader most_depth ts) a rest e) })

  pub has_fronts : HasFronts part
  has_fronts = record {
    beginnings = beginnings;
    begun = begun;
    completed = completed;
    one_place = one_place;
    one_deep = one_first;
    deep = deep_is_viable;
    too_far = too_far;
    sorted = λ ts end. by_outcome ts end (whole (reader most_depth) ts) refl;
  } where
    by_outcome : (ts : List Token) (end : ℕ) (o : Outcome A) → whole (reader most_depth) ts ≡ o → ((tree : A) × Stands part most_depth ts tree × IsShallow part ts) ⊎ (((at : Span) × IsSyntaxError part ts end at) ⊎ ((at : Span) × IsFirstDeep part ts at))
    by_outcome ts end (got a rest) e = inl (a, record { is = (at_top ts).sound ts a [] (ended (reader most_depth ts) a rest e) }, read_shallow ts a rest e)
    by_outcome ts end (dead rest) e = inr (inl (place rest end, refused ts rest end e))
    by_outcome ts end (too_deep rest) e = inr (inr (place rest end, sunk ts rest end e))
