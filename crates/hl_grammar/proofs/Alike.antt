-- Parts of the grammar that go by the tokens alone: what follows them, and the values before them,
-- make no difference; each beginning of a front is a front; a front can be completed.
use Rattle.std.proofs.Common.{◌≡◌, ℕ, zero, suc, Bool, true, false, List, [], ◌∷◌, ◌++◌, length, refl, sym, ap, subst, ◌∙◌, ◌⊎◌, inl, inr, arith}
use Rattle.std.proofs.lemmas.List.{append_assoc}
use Rattle.hl_syntax.specs.declared.token.Span.{Span}
use Rattle.hl_syntax.specs.declared.token.Token.{Token}
use Rattle.hl_syntax.specs.declared.token.TokenKind.{TokenKind}
use Rattle.simplicityhl.specs.Parts.{Part}
use Rattle.simplicityhl.specs.Parts as g
use Rattle.hl_grammar.specs.Readers.{first_is}
use Rattle.hl_grammar.proofs.Exact.{Shows, spans, spans_front, spans_deep, spanned_front}

-- any two values are alike
abbrev pub Any : {A : Type 0} → A → A → Type 0
Any a b = Unit {0}

-- what an occurrence of the parts of a family is: so many tokens, which are as good a one of each part that is alike, whatever follows
pub record Wholes {I A : Type 0} (R : I → I → Type 0) (S : A → A → Type 0) (P P' : I → Part A) (i : I) (ts : List Token) (a : A) (rest : List Token) : Type 0 where
  pub tokens : List Token
  pub are : ts ≡ tokens ++ rest
  pub again : (j : I) → R i j → (more : List Token) → (b : A) × (P j).Whole (tokens ++ more) b more × S a b
  pub deeper : (j : I) → R i j → (more : List Token) → (b : A) × (P' j).Whole (tokens ++ more) b more × S a b
  pub begun : (us vs : List Token) → tokens ≡ us ++ vs → (j : I) → R i j → (more : List Token) → (P j).Front (us ++ more) more

-- what a front is: so many tokens, each beginning of which is a front, and after which an occurrence can be completed
pub record Fronts {I A : Type 0} (R : I → I → Type 0) (P P' : I → Part A) (i : I) (ts rest : List Token) : Type 0 where
  pub tokens : List Token
  pub are : ts ≡ tokens ++ rest
  pub begun : (us vs : List Token) → tokens ≡ us ++ vs → (j : I) → R i j → (more : List Token) → (P j).Front (us ++ more) more
  pub tail : List Token
  pub complete : (j : I) → R i j → (more : List Token) → (b : A) × (P' j).Whole (tokens ++ (tail ++ more)) b more

-- what goes too deep: so many tokens, which do so whatever follows, and are a front one level further in
pub record Deeps {I A : Type 0} (R : I → I → Type 0) (P P' : I → Part A) (i : I) (ts rest : List Token) : Type 0 where
  pub tokens : List Token
  pub are : ts ≡ tokens ++ rest
  pub again : (j : I) → R i j → (more : List Token) → (P j).Deep (tokens ++ more) more
  pub fronts : (j : I) → R i j → (more : List Token) → (P' j).Front (tokens ++ more) more

-- a family of parts of one depth, and the same of one that is no lower: its fronts are completed there, and these tokens are an occurrence of each
pub record Alike {I A : Type 0} (filling : List Token) (R : I → I → Type 0) (S : A → A → Type 0) (P P' : I → Part A) : Type 0 where
  pub whole : (i : I) (ts : List Token) (a : A) (rest : List Token) → (P i).Whole ts a rest → Wholes R S P P' i ts a rest
  pub front : (i : I) (ts rest : List Token) → (P i).Front ts rest → Fronts R P P' i ts rest
  pub deep : (i : I) (ts rest : List Token) → (P i).Deep ts rest → Deeps R P P' i ts rest
  pub fills : (i : I) (more : List Token) → (a : A) × (P' i).Whole (filling ++ more) a more

-- one part, and the same of a depth that is no lower
pub record Regular {A : Type 0} (p p' : Part A) : Type 0 where
  pub filling : List Token
  pub alike : Alike {I = Unit {0}} filling Any Any (λ i. p) (λ i. p')

-- it is one whatever was read before it
pub anywhere : {I A : Type 0} {filling : List Token} {R : I → I → Type 0} {p p' : Part A} → Alike {I = Unit {0}} filling Any Any (λ i. p) (λ i. p') → Alike filling R Any (λ i. p) (λ i. p')
anywhere x = record {
  whole = λ i ts a rest w. let h = x.whole tt ts a rest w in record { tokens = h.tokens; are = h.are; again = λ j r more. h.again tt tt more; deeper = λ j r more. h.deeper tt tt more; begun = λ us vs e j r more. h.begun us vs e tt tt more };
  front = λ i ts rest f. let h = x.front tt ts rest f in record { tokens = h.tokens; are = h.are; begun = λ us vs e j r more. h.begun us vs e tt tt more; tail = h.tail; complete = λ j r more. h.complete tt tt more };
  deep = λ i ts rest d. let h = x.deep tt ts rest d in record { tokens = h.tokens; are = h.are; again = λ j r more. h.again tt tt more; fronts = λ j r more. h.fronts tt tt more };
  fills = λ i more. x.fills tt more;
}

pub part : {I A : Type 0} {R : I → I → Type 0} {p p' : Part A} (x : Regular p p') → Alike x.filling R Any (λ i. p) (λ i. p')
part x = anywhere x.alike

-- Lists cut in two ways.

first_of_none : (us vs : List Token) → [] ≡ us ++ vs → us ≡ []
first_of_none [] vs e = refl
first_of_none (u ∷ us) vs e = absurd (let no : ⊥ = cc in no)

pub heads : {t u : Token} {ts us : List Token} → t ∷ ts ≡ u ∷ us → (t ≡ u) × (ts ≡ us)
heads e = (let h : _ ≡ _ = cc in h, let h : _ ≡ _ = cc in h)

-- a list in two parts, cut elsewhere: in the second part or in the first
pub data Cut (xs ys us vs : List Token) : Type 0 where
  in_second : (zs : List Token) → us ≡ xs ++ zs → ys ≡ zs ++ vs → Cut xs ys us vs
  in_first : (zs : List Token) → xs ≡ us ++ zs → vs ≡ zs ++ ys → Cut xs ys us vs

cut_more : (x : Token) (xs ys us vs : List Token) → Cut xs ys us vs → Cut (x ∷ xs) ys (x ∷ us) vs
cut_more x xs ys us vs (in_second zs e h) = in_second zs (ap (λ l. x ∷ l) e) h
cut_more x xs ys us vs (in_first zs e h) = in_first zs (ap (λ l. x ∷ l) e) h

pub cut : (xs ys us vs : List Token) → xs ++ ys ≡ us ++ vs → Cut xs ys us vs
cut [] ys us vs e = in_second us refl e
cut (x ∷ xs) ys [] vs e = in_first (x ∷ xs) refl (sym e)
cut (x ∷ xs) ys (u ∷ us) vs e = let h = heads e in subst (λ t. Cut (x ∷ xs) ys (t ∷ us) vs) h.0 (cut_more x xs ys us vs (cut xs ys us vs h.1))

-- a front of one token has two beginnings
short_begun : (t : Token) (us vs : List Token) → t ∷ [] ≡ us ++ vs → (us ≡ []) ⊎ (us ≡ t ∷ [])
short_begun t [] vs e = inl refl
short_begun t (u ∷ us) vs e = let h = heads e in inr (rw (first_of_none us vs h.1, h.0) refl)

-- Parts of no tokens.

-- no tokens, where they are a front and the filling completes them
pub no_tokens : {I A : Type 0} {R : I → I → Type 0} {P P' : I → Part A} (filling : List Token) → ((j : I) (more : List Token) → (P j).Front more more) → ((j : I) (more : List Token) → (a : A) × (P' j).Whole (filling ++ more) a more) → (i : I) (ts rest : List Token) → rest ≡ ts → Fronts R P P' i ts rest
no_tokens {P} filling empty fills i ts rest e = record {
  tokens = [];
  are = sym e;
  begun = λ us vs h j r more. rw (first_of_none us vs h) (empty j more);
  tail = filling;
  complete = λ j r more. fills j more;
}

pub done_alike : {I A : Type 0} {R : I → I → Type 0} {S : A → A → Type 0} (x x' : I → A) → ((i j : I) → R i j → S (x i) (x j)) → ((i j : I) → R i j → S (x i) (x' j)) → Alike [] R S (λ i. g.done (x i)) (λ i. g.done (x' i))
done_alike {S} x x' same other = record {
  whole = λ i ts a rest w. record {
    tokens = [];
    are = sym w.1;
    again = λ j r more. (x j, (refl, refl), rw w.0 (same i j r));
    deeper = λ j r more. (x' j, (refl, refl), rw w.0 (other i j r));
    begun = λ us vs h j r more. rw (first_of_none us vs h) refl;
  };
  front = λ i ts rest e. no_tokens [] (λ j more. refl) (λ j more. (x' j, (refl, refl))) i ts rest e;
  deep = λ i ts rest h. absurd h;
  fills = λ i more. (x' i, (refl, refl));
}

-- no tokens, with any values
pub done_any : {I A : Type 0} {R : I → I → Type 0} (x x' : I → A) → Alike [] R Any (λ i. g.done (x i)) (λ i. g.done (x' i))
done_any x x' = done_alike x x' (λ i j r. tt) (λ i j r. tt)

pub here_alike : {I : Type 0} {R : I → I → Type 0} → Alike [] R Any (λ (i : I). g.here) (λ i. g.here)
here_alike = record {
  whole = λ i ts a rest w. record {
    tokens = [];
    are = sym w.1;
    again = λ j r more. (more, (refl, refl), tt);
    deeper = λ j r more. (more, (refl, refl), tt);
    begun = λ us vs h j r more. rw (first_of_none us vs h) refl;
  };
  front = λ i ts rest e. no_tokens [] (λ j more. refl) (λ j more. (more, (refl, refl))) i ts rest e;
  deep = λ i ts rest h. absurd h;
  fills = λ i more. (more, (refl, refl));
}

-- Single tokens.

pub one_alike : {I A : Type 0} {R : I → I → Type 0} (test : TokenKind → Bool) (value : Token → A) (example : Token) → test example.kind ≡ true → Alike (example ∷ []) R Any (λ (i : I). g.one test value) (λ i. g.one test value)
one_alike {I} {R} test value example passes = record {
  whole = λ i ts a rest w. record {
    tokens = w.0 ∷ [];
    are = w.1;
    again = λ j r more. (value w.0, (w.0, refl, w.2, refl), tt);
    deeper = λ j r more. (value w.0, (w.0, refl, w.2, refl), tt);
    begun = λ us vs h j r more. begun w.0 us vs more w.2 h;
  };
  front = λ i ts rest f. elim f [
    | inl e ↦ no_tokens (example ∷ []) (λ j more. inl refl) (λ j more. (value example, (example, refl, passes, refl))) i ts rest e
    | inr u ↦ record {
      tokens = u.0 ∷ [];
      are = u.1;
      begun = λ us vs h j r more. begun u.0 us vs more u.2 h;
      tail = [];
      complete = λ j r more. (value u.0, (u.0, refl, u.2, refl));
    }
  ];
  deep = λ i ts rest h. absurd h;
  fills = λ i more. (value example, (example, refl, passes, refl));
} where
  begun : (t : Token) (us vs more : List Token) → test t.kind ≡ true → t ∷ [] ≡ us ++ vs → (g.one test value).Front (us ++ more) more
  begun t us vs more h e = elim (short_begun t us vs e) [
    | inl none ↦ rw none (inl refl)
    | inr some ↦ rw some (inr (t, refl, h))
  ]

-- One part after another.

pub after_alike : {I A B : Type 0} {filling more_filling : List Token} {R : I → I → Type 0} {S : A → A → Type 0} {T : B → B → Type 0} {P P' : I → Part A} {Q Q' : I → A → Part B}
    → Alike filling R S P P' → Alike more_filling (λ (i j : I × A). R i.0 j.0 × S i.1 j.1) T (λ i. Q i.0 i.1) (λ i. Q' i.0 i.1)
    → Alike (filling ++ more_filling) R T (λ i. g.◌>>=◌ (P i) (Q i)) (λ i. g.◌>>=◌ (P' i) (Q' i))
after_alike {I} {A} {B} {filling} {more_filling} {R} {S} {T} {P} {P'} {Q} {Q'} x y = record {
  whole = λ i ts b rest w.
      let v = x.whole i ts w.0 w.1 w.2 in
      let u = y.whole (i, w.0) w.1 b rest w.3 in
      record {
        tokens = v.tokens ++ u.tokens;
        are = both ts w.1 rest v.tokens u.tokens v.are u.are;
        again = λ j r more.
            let a = v.again j r (u.tokens ++ more) in
            let c = u.again (j, a.0) (r, a.2) more in
            (c.0, (a.0, u.tokens ++ more, subst (λ us. (P j).Whole us a.0 (u.tokens ++ more)) (sym (append_assoc v.tokens u.tokens more)) a.1, c.1), c.2);
        deeper = λ j r more.
            let a = v.deeper j r (u.tokens ++ more) in
            let c = u.deeper (j, a.0) (r, a.2) more in
            (c.0, (a.0, u.tokens ++ more, subst (λ us. (P' j).Whole us a.0 (u.tokens ++ more)) (sym (append_assoc v.tokens u.tokens more)) a.1, c.1), c.2);
        begun = λ us vs e j r more. begun i w.0 j r more us vs v.tokens u.tokens v.again v.begun u.begun (cut v.tokens u.tokens us vs e);
      };
  front = λ i ts rest f. elim f [
    | inl h ↦
        let v = x.front i ts rest h in
        record {
          tokens = v.tokens;
          are = v.are;
          begun = λ us vs e j r more. inl (v.begun us vs e j r more);
          tail = v.tail ++ more_filling;
          complete = λ j r more.
              let a = v.complete j r (more_filling ++ more) in
              let c = y.fills (j, a.0) more in
              (c.0, (a.0, more_filling ++ more, subst (λ us. (P' j).Whole (v.tokens ++ us) a.0 (more_filling ++ more)) (sym (append_assoc v.tail more_filling more)) a.1, c.1));
        }
    | inr w ↦
        let v = x.whole i ts w.0 w.1 w.2 in
        let u = y.front (i, w.0) w.1 rest w.3 in
        record {
          tokens = v.tokens ++ u.tokens;
          are = both ts w.1 rest v.tokens u.tokens v.are u.are;
          begun = λ us vs e j r more. begun i w.0 j r more us vs v.tokens u.tokens v.again v.begun u.begun (cut v.tokens u.tokens us vs e);
          tail = u.tail;
          complete = λ j r more.
              let a = v.deeper j r (u.tokens ++ (u.tail ++ more)) in
              let c = u.complete (j, a.0) (r, a.2) more in
              (c.0, (a.0, u.tokens ++ (u.tail ++ more), subst (λ us. (P' j).Whole us a.0 (u.tokens ++ (u.tail ++ more))) (sym (append_assoc v.tokens u.tokens (u.tail ++ more))) a.1, c.1));
        }
  ];
  deep = λ i ts rest d. elim d [
    | inl h ↦ let v = x.deep i ts rest h in record { tokens = v.tokens; are = v.are; again = λ j r more. inl (v.again j r more); fronts = λ j r more. inl (v.fronts j r more) }
    | inr w ↦
        let v = x.whole i ts w.0 w.1 w.2 in
        let u = y.deep (i, w.0) w.1 rest w.3 in
        record {
          tokens = v.tokens ++ u.tokens;
          are = both ts w.1 rest v.tokens u.tokens v.are u.are;
          again = λ j r more.
              let a = v.again j r (u.tokens ++ more) in
              inr (a.0, u.tokens ++ more, subst (λ us. (P j).Whole us a.0 (u.tokens ++ more)) (sym (append_assoc v.tokens u.tokens more)) a.1, u.again (j, a.0) (r, a.2) more);
          fronts = λ j r more.
              let a = v.deeper j r (u.tokens ++ more) in
              inr (a.0, u.tokens ++ more, subst (λ us. (P' j).Whole us a.0 (u.tokens ++ more)) (sym (append_assoc v.tokens u.tokens more)) a.1, u.fronts (j, a.0) (r, a.2) more);
        }
  ];
  fills = λ i more.
      let a = x.fills i (more_filling ++ more) in
      let c = y.fills (i, a.0) more in
      (c.0, (a.0, more_filling ++ more, subst (λ us. (P' i).Whole us a.0 (more_filling ++ more)) (sym (append_assoc filling more_filling more)) a.1, c.1));
} where
  both : (ts middle rest us vs : List Token) → ts ≡ us ++ middle → middle ≡ vs ++ rest → ts ≡ (us ++ vs) ++ rest
  both ts middle rest us vs e h = e ∙ ap (λ l. us ++ l) h ∙ sym (append_assoc us vs rest)

  begun : (i : I) (a : A) (j : I) → R i j → (more us vs xs ys : List Token) → ((k : I) → R i k → (rest : List Token) → (b : A) × (P k).Whole (xs ++ rest) b rest × S a b)
      → ((zs ws : List Token) → xs ≡ zs ++ ws → (k : I) → R i k → (rest : List Token) → (P k).Front (zs ++ rest) rest)
      → ((zs ws : List Token) → ys ≡ zs ++ ws → (k : I × A) → R i k.0 × S a k.1 → (rest : List Token) → (Q k.0 k.1).Front (zs ++ rest) rest)
      → Cut xs ys us vs → (g.◌>>=◌ (P j) (Q j)).Front (us ++ more) more
  begun i a j r more us vs xs ys again first second (in_first zs e h) = inl (first us zs e j r more)
  begun i a j r more us vs xs ys again first second (in_second zs e h) =
      let b = again j r (zs ++ more) in
      subst (λ l. (g.◌>>=◌ (P j) (Q j)).Front (l ++ more) more) (sym e)
      (inr (b.0, zs ++ more, subst (λ l. (P j).Whole l b.0 (zs ++ more)) (sym (append_assoc xs zs more)) b.1, second zs vs h (j, b.0) (r, b.2) more))

-- Alternatives.

pub either_alike : {I A : Type 0} {filling other : List Token} {R : I → I → Type 0} {S : A → A → Type 0} {P P' Q Q' : I → Part A} → Alike filling R S P P' → Alike other R S Q Q' → Alike filling R S (λ i. g.either (P i) (Q i)) (λ i. g.either (P' i) (Q' i))
either_alike x y = record {
  whole = λ i ts a rest w. elim w [
    | inl u ↦ let h = x.whole i ts a rest u in record {
      tokens = h.tokens;
      are = h.are;
      again = λ j r more. let b = h.again j r more in (b.0, inl b.1, b.2);
      deeper = λ j r more. let b = h.deeper j r more in (b.0, inl b.1, b.2);
      begun = λ us vs e j r more. inl (h.begun us vs e j r more);
    }
    | inr u ↦ let h = y.whole i ts a rest u in record {
      tokens = h.tokens;
      are = h.are;
      again = λ j r more. let b = h.again j r more in (b.0, inr b.1, b.2);
      deeper = λ j r more. let b = h.deeper j r more in (b.0, inr b.1, b.2);
      begun = λ us vs e j r more. inr (h.begun us vs e j r more);
    }
  ];
  front = λ i ts rest f. elim f [
    | inl u ↦ let h = x.front i ts rest u in record { tokens = h.tokens; are = h.are; begun = λ us vs e j r more. inl (h.begun us vs e j r more); tail = h.tail; complete = λ j r more. let b = h.complete j r more in (b.0, inl b.1) }
    | inr u ↦ let h = y.front i ts rest u in record { tokens = h.tokens; are = h.are; begun = λ us vs e j r more. inr (h.begun us vs e j r more); tail = h.tail; complete = λ j r more. let b = h.complete j r more in (b.0, inr b.1) }
  ];
  deep = λ i ts rest d. elim d [
    | inl u ↦ let h = x.deep i ts rest u in record { tokens = h.tokens; are = h.are; again = λ j r more. inl (h.again j r more); fronts = λ j r more. inl (h.fronts j r more) }
    | inr u ↦ let h = y.deep i ts rest u in record { tokens = h.tokens; are = h.are; again = λ j r more. inr (h.again j r more); fronts = λ j r more. inr (h.fronts j r more) }
  ];
  fills = λ i more. let b = x.fills i more in (b.0, inl b.1);
}

-- a part that stands for nothing: only no tokens are a front of it
pub record Empty {A : Type 0} (p : Part A) : Type 0 where
  pub whole : (ts : List Token) (a : A) (rest : List Token) → p.Whole ts a rest → ⊥
  pub front : (ts rest : List Token) → p.Front ts rest → rest ≡ ts
  pub none : (ts : List Token) → p.Front ts ts
  pub deep : (ts rest : List Token) → p.Deep ts rest → ⊥

pub never_empty : {A : Type 0} → Empty (g.never {A = A})
never_empty = record { whole = λ ts a rest w. w; front = λ ts rest e. e; none = λ ts. refl; deep = λ ts rest h. h }

-- one of many parts, some of which may stand for nothing, where one can be filled
pub one_of_alike : {L I A : Type 0} {filling : List Token} {R : I → I → Type 0} {P P' : I → L → Part A} (l : L) → Alike filling R Any (λ i. P i l) (λ i. P' i l) → ((m : L) → ((other : List Token) × Alike other R Any (λ i. P i m) (λ i. P' i m)) ⊎ ((i : I) → Empty (P i m)))
    → Alike filling R Any (λ i. g.one_of (P i)) (λ i. g.one_of (P' i))
one_of_alike {L} {I} {A} {filling} {R} {P} {P'} l x each = record {
  whole = λ i ts a rest w. elim (each w.0) [
    | inl y ↦ let h = y.1.whole i ts a rest w.1 in record {
      tokens = h.tokens;
      are = h.are;
      again = λ j r more. let b = h.again j r more in (b.0, (w.0, b.1), tt);
      deeper = λ j r more. let b = h.deeper j r more in (b.0, (w.0, b.1), tt);
      begun = λ us vs e j r more. (w.0, h.begun us vs e j r more);
    }
    | inr none ↦ absurd ((none i).whole ts a rest w.1)
  ];
  front = λ i ts rest f. elim (each f.0) [
    | inl y ↦ let h = y.1.front i ts rest f.1 in record { tokens = h.tokens; are = h.are; begun = λ us vs e j r more. (f.0, h.begun us vs e j r more); tail = h.tail; complete = λ j r more. let b = h.complete j r more in (b.0, (f.0, b.1)) }
    | inr none ↦ no_tokens filling (λ j more. (f.0, (none j).none more)) (λ j more. let b = x.fills j more in (b.0, (l, b.1))) i ts rest ((none i).front ts rest f.1)
  ];
  deep = λ i ts rest d. elim (each d.0) [
    | inl y ↦ let h = y.1.deep i ts rest d.1 in record { tokens = h.tokens; are = h.are; again = λ j r more. (d.0, h.again j r more); fronts = λ j r more. (d.0, h.fronts j r more) }
    | inr none ↦ absurd ((none i).deep ts rest d.1)
  ];
  fills = λ i more. let b = x.fills i more in (b.0, (l, b.1));
}

-- one of many parts, each of which can be filled
pub one_of_regular : {L A : Type 0} {p p' : L → Part A} (l : L) → ((m : L) → Regular (p m) (p' m)) → Regular (g.one_of p) (g.one_of p')
one_of_regular l each = record { filling = (each l).filling; alike = one_of_alike l ((each l).alike) (λ m. inl ((each m).filling, (each m).alike)) }

-- the first of two parts or the second, the same for families that are alike
pub chosen_alike : {I A : Type 0} {filling : List Token} {R : I → I → Type 0} {S : A → A → Type 0} {P P' Q Q' : I → Part A} (b : I → Bool) → ((i j : I) → R i j → b i ≡ b j) → Alike filling R S P P' → Alike filling R S Q Q' → Alike filling R S (λ i. g.chosen (b i) (P i) (Q i)) (λ i. g.chosen (b i) (P' i) (Q' i))
chosen_alike {I} {A} {filling} {R} {S} {P} {P'} {Q} {Q'} b same x y = record {
  whole = λ i ts a rest w. whole (b i) i ts a rest refl w;
  front = λ i ts rest f. front (b i) i ts rest refl f;
  deep = λ i ts rest d. deep (b i) i ts rest refl d;
  fills = λ i more. fills (b i) i more;
} where
  -- what the choice is for another one that is alike
  first : (V : Part A → Type 0) (i j : I) → R i j → b i ≡ true → (p q : Part A) → V p → V (g.chosen (b j) p q)
  first V i j r e p q v = subst (λ c. V (g.chosen c p q)) (sym e ∙ same i j r) v

  second : (V : Part A → Type 0) (i j : I) → R i j → b i ≡ false → (p q : Part A) → V q → V (g.chosen (b j) p q)
  second V i j r e p q v = subst (λ c. V (g.chosen c p q)) (sym e ∙ same i j r) v

  whole : (c : Bool) (i : I) (ts : List Token) (a : A) (rest : List Token) → b i ≡ c → (g.chosen c (P i) (Q i)).Whole ts a rest → Wholes R S (λ k. g.chosen (b k) (P k) (Q k)) (λ k. g.chosen (b k) (P' k) (Q' k)) i ts a rest
  whole true i ts a rest e w = let h = x.whole i ts a rest w in record {
    tokens = h.tokens;
    are = h.are;
    again = λ j r more. let v = h.again j r more in (v.0, first (λ p. p.Whole (h.tokens ++ more) v.0 more) i j r e (P j) (Q j) v.1, v.2);
    deeper = λ j r more. let v = h.deeper j r more in (v.0, first (λ p. p.Whole (h.tokens ++ more) v.0 more) i j r e (P' j) (Q' j) v.1, v.2);
    begun = λ us vs k j r more. first (λ p. p.Front (us ++ more) more) i j r e (P j) (Q j) (h.begun us vs k j r more);
  }
  whole false i ts a rest e w = let h = y.whole i ts a rest w in record {
    tokens = h.tokens;
    are = h.are;
    again = λ j r more. let v = h.again j r more in (v.0, second (λ p. p.Whole (h.tokens ++ more) v.0 more) i j r e (P j) (Q j) v.1, v.2);
    deeper = λ j r more. let v = h.deeper j r more in (v.0, second (λ p. p.Whole (h.tokens ++ more) v.0 more) i j r e (P' j) (Q' j) v.1, v.2);
    begun = λ us vs k j r more. second (λ p. p.Front (us ++ more) more) i j r e (P j) (Q j) (h.begun us vs k j r more);
  }

  front : (c : Bool) (i : I) (ts rest : List Token) → b i ≡ c → (g.chosen c (P i) (Q i)).Front ts rest → Fronts R (λ k. g.chosen (b k) (P k) (Q k)) (λ k. g.chosen (b k) (P' k) (Q' k)) i ts rest
  front true i ts rest e f = let h = x.front i ts rest f in record {
    tokens = h.tokens;
    are = h.are;
    begun = λ us vs k j r more. first (λ p. p.Front (us ++ more) more) i j r e (P j) (Q j) (h.begun us vs k j r more);
    tail = h.tail;
    complete = λ j r more. let v = h.complete j r more in (v.0, first (λ p. p.Whole (h.tokens ++ (h.tail ++ more)) v.0 more) i j r e (P' j) (Q' j) v.1);
  }
  front false i ts rest e f = let h = y.front i ts rest f in record {
    tokens = h.tokens;
    are = h.are;
    begun = λ us vs k j r more. second (λ p. p.Front (us ++ more) more) i j r e (P j) (Q j) (h.begun us vs k j r more);
    tail = h.tail;
    complete = λ j r more. let v = h.complete j r more in (v.0, second (λ p. p.Whole (h.tokens ++ (h.tail ++ more)) v.0 more) i j r e (P' j) (Q' j) v.1);
  }

  deep : (c : Bool) (i : I) (ts rest : List Token) → b i ≡ c → (g.chosen c (P i) (Q i)).Deep ts rest → Deeps R (λ k. g.chosen (b k) (P k) (Q k)) (λ k. g.chosen (b k) (P' k) (Q' k)) i ts rest
  deep true i ts rest e d = let h = x.deep i ts rest d in record { tokens = h.tokens; are = h.are; again = λ j r more. first (λ p. p.Deep (h.tokens ++ more) more) i j r e (P j) (Q j) (h.again j r more); fronts = λ j r more. first (λ p. p.Front (h.tokens ++ more) more) i j r e (P' j) (Q' j) (h.fronts j r more) }
  deep false i ts rest e d = let h = y.deep i ts rest d in record { tokens = h.tokens; are = h.are; again = λ j r more. second (λ p. p.Deep (h.tokens ++ more) more) i j r e (P j) (Q j) (h.again j r more); fronts = λ j r more. second (λ p. p.Front (h.tokens ++ more) more) i j r e (P' j) (Q' j) (h.fronts j r more) }

  fills : (c : Bool) (i : I) (more : List Token) → (a : A) × (g.chosen c (P' i) (Q' i)).Whole (filling ++ more) a more
  fills true i more = x.fills i more
  fills false i more = y.fills i more

-- Repetitions.

-- a repetition whose turn goes by the tokens alone over what does; the last turn can be filled
pub turns_alike : {X A : Type 0} {filling : List Token} {turn turn' : (X → Part A) → X → Part A} → ((P P' : X → Part A) → Alike filling Any Any P P' → Alike filling Any Any (turn P) (turn' P'))
    → ((i : X) (more : List Token) → (a : A) × (turn' (λ x. g.never) i).Whole (filling ++ more) a more) → (n : ℕ) → Alike filling Any Any (g.turns turn n) (g.turns turn' (suc n))
turns_alike {filling} step last zero = record {
  whole = λ i ts a rest w. absurd w;
  front = λ i ts rest e. no_tokens filling (λ j more. refl) last i ts rest e;
  deep = λ i ts rest h. absurd h;
  fills = last;
}
turns_alike {turn} {turn'} step last (suc n) = step (g.turns turn n) (g.turns turn' (suc n)) (turns_alike step last n)

pub turning_alike : {X A : Type 0} {filling : List Token} {turn turn' : (X → Part A) → X → Part A} → ((P P' : X → Part A) → Alike filling Any Any P P' → Alike filling Any Any (turn P) (turn' P'))
    → ((i : X) (more : List Token) → (a : A) × (turn' (λ x. g.never) i).Whole (filling ++ more) a more) → Alike filling Any Any (g.turning turn) (g.turning turn')
turning_alike step last = record {
  whole = λ i ts a rest w. let h = (turns_alike step last w.0).whole i ts a rest w.1 in record {
    tokens = h.tokens;
    are = h.are;
    again = λ j r more. let b = h.again j r more in (b.0, (w.0, b.1), tt);
    deeper = λ j r more. let b = h.deeper j r more in (b.0, (suc w.0, b.1), tt);
    begun = λ us vs e j r more. (w.0, h.begun us vs e j r more);
  };
  front = λ i ts rest f. let h = (turns_alike step last f.0).front i ts rest f.1 in record { tokens = h.tokens; are = h.are; begun = λ us vs e j r more. (f.0, h.begun us vs e j r more); tail = h.tail; complete = λ j r more. let b = h.complete j r more in (b.0, (suc f.0, b.1)) };
  deep = λ i ts rest d. let h = (turns_alike step last d.0).deep i ts rest d.1 in record { tokens = h.tokens; are = h.are; again = λ j r more. (d.0, h.again j r more); fronts = λ j r more. (suc d.0, h.fronts j r more) };
  fills = λ i more. let b = last i more in (b.0, (suc zero, b.1));
}

-- one part of a family
pub at_index : {X A : Type 0} {filling : List Token} {P P' : X → Part A} (x : X) → Alike filling Any Any P P' → Regular (P x) (P' x)
at_index {filling} x y = record {
  filling = filling;
  alike = record {
    whole = λ i ts a rest w. let h = y.whole x ts a rest w in record { tokens = h.tokens; are = h.are; again = λ j r more. h.again x tt more; deeper = λ j r more. h.deeper x tt more; begun = λ us vs e j r more. h.begun us vs e x tt more };
    front = λ i ts rest f. let h = y.front x ts rest f in record { tokens = h.tokens; are = h.are; begun = λ us vs e j r more. h.begun us vs e x tt more; tail = h.tail; complete = λ j r more. h.complete x tt more };
    deep = λ i ts rest d. let h = y.deep x ts rest d in record { tokens = h.tokens; are = h.are; again = λ j r more. h.again x tt more; fronts = λ j r more. h.fronts x tt more };
    fills = λ i more. y.fills x more;
  };
}

-- Spans.

pub spanned_alike : {I A B : Type 0} {filling : List Token} {R : I → I → Type 0} {P P' : I → Part A} (make : A → Span → B) → Alike filling R Any P P' → Alike filling R Any (λ i. g.spanned make (P i)) (λ i. g.spanned make (P' i))
spanned_alike {I} {A} {B} {filling} {R} {P} {P'} make x = record {
  whole = λ i ts b rest w.
      let s = spans make (P i) ts b rest w in
      let h = x.whole i ts s.value rest s.stands in
      record {
        tokens = h.tokens;
        are = h.are;
        again = λ j r more. let v = h.again j r more in let u = stands (P j) (h.tokens ++ more) v.0 more v.1 in (u.0, u.1, tt);
        deeper = λ j r more. let v = h.deeper j r more in let u = stands (P' j) (h.tokens ++ more) v.0 more v.1 in (u.0, u.1, tt);
        begun = λ us vs e j r more. spanned_front make (P j) (us ++ more) more (h.begun us vs e j r more);
      };
  front = λ i ts rest f. elim (spans_front make (P i) ts rest f) [
    | inl e ↦ no_tokens filling (λ j more. inl refl) (λ j more. let v = x.fills j more in stands (P' j) (filling ++ more) v.0 more v.1) i ts rest e
    | inr u ↦ elim u [
      | inl v ↦ let h = x.front i ts rest v in record {
        tokens = h.tokens;
        are = h.are;
        begun = λ us vs e j r more. spanned_front make (P j) (us ++ more) more (h.begun us vs e j r more);
        tail = h.tail;
        complete = λ j r more. let z = h.complete j r more in stands (P' j) (h.tokens ++ (h.tail ++ more)) z.0 more z.1;
      }
      | inr v ↦ let h = x.whole i ts v.0 rest v.1 in record {
        tokens = h.tokens;
        are = h.are;
        begun = λ us vs e j r more. spanned_front make (P j) (us ++ more) more (h.begun us vs e j r more);
        tail = [];
        complete = λ j r more. let z = h.deeper j r more in stands (P' j) (h.tokens ++ more) z.0 more z.1;
      }
    ]
  ];
  deep = λ i ts rest d. let h = x.deep i ts rest (spans_deep make (P i) ts rest d) in record { tokens = h.tokens; are = h.are; again = λ j r more. inr (h.tokens ++ more, h.tokens ++ more, (refl, refl), inl (h.again j r more)); fronts = λ j r more. spanned_front make (P' j) (h.tokens ++ more) more (h.fronts j r more) };
  fills = λ i more. let v = x.fills i more in stands (P' i) (filling ++ more) v.0 more v.1;
} where
  stands : (p : Part A) (ts : List Token) (a : A) (rest : List Token) → p.Whole ts a rest → (b : B) × (g.spanned make p).Whole ts b rest
  stands p ts a rest w = (make a (g.span_between ts rest), (ts, ts, (refl, refl), (a, rest, w, (rest, rest, (refl, refl), (refl, refl)))))

pub spanned : {A B : Type 0} {p p' : Part A} (make : A → Span → B) → Regular p p' → Regular (g.spanned make p) (g.spanned make p')
spanned make x = record { filling = x.filling; alike = spanned_alike make x.alike }

-- What would be nested too deep.

-- where a token begins it by its kind alone, and it can be filled one level further in
pub too_deep : {A : Type 0} {level p' : Part A} (test : TokenKind → Bool) → Shows (first_is test) true level → ((t : Token) (us : List Token) → test t.kind ≡ true → level.Front (t ∷ us) us) → ((t : Token) (us : List Token) → test t.kind ≡ true → p'.Front (t ∷ us) us) → (filling : List Token) → ((more : List Token) → (a : A) × p'.Whole (filling ++ more) a more) → Regular (g.too_deep level) p'
too_deep {level} test shows front front' filling fills = record {
  filling = filling;
  alike = record {
    whole = λ i ts a rest w. absurd w;
    front = λ i ts rest e. no_tokens filling (λ j more. refl) (λ j more. fills more) i ts rest e;
    deep = λ i ts rest d. record {
      tokens = d.0 ∷ [];
      are = d.1;
      again = λ j r more. (d.0, refl, front d.0 more (passes ts d.0 rest d.1 (shows.front ts rest d.2)));
      fronts = λ j r more. front' d.0 more (passes ts d.0 rest d.1 (shows.front ts rest d.2));
    };
    fills = λ i more. fills more;
  };
} where
  passes : (ts : List Token) (t : Token) (rest : List Token) → ts ≡ t ∷ rest → (rest ≡ ts) ⊎ (first_is test ts ≡ true) → test t.kind ≡ true
  passes ts t rest e (inl h) = let k : length rest ≡ length (t ∷ rest) = ap length (h ∙ e) in absurd (omega arith)
  passes ts t rest e (inr h) = subst (λ us. first_is test us ≡ true) e h

-- Parts that end with the end of all tokens: nothing may follow an occurrence.

pub record EndFronts {I A : Type 0} (P P' : I → Part A) (ts rest : List Token) : Type 0 where
  pub tokens : List Token
  pub are : ts ≡ tokens ++ rest
  pub begun : (us vs : List Token) → tokens ≡ us ++ vs → (j : I) (more : List Token) → (P j).Front (us ++ more) more
  pub tail : List Token
  pub complete : (j : I) → (b : A) × (P' j).Whole (tokens ++ tail) b []

pub record Ending {I A : Type 0} (P P' : I → Part A) : Type 0 where
  pub front : (i : I) (ts rest : List Token) → (P i).Front ts rest → EndFronts P P' ts rest
  pub deep : (i : I) (ts rest : List Token) → (P i).Deep ts rest → Deeps Any P P' i ts rest

-- no tokens are an occurrence
abbrev pub IsFilled : {I A : Type 0} → (I → Part A) → Type 0
IsFilled {I} {A} P = (i : I) → (b : A) × (P i).Whole [] b []

no_more : {I A : Type 0} {P P' : I → Part A} → ((j : I) (more : List Token) → (P j).Front more more) → IsFilled P' → (ts rest : List Token) → rest ≡ ts → EndFronts P P' ts rest
no_more empty fills ts rest e = record { tokens = []; are = sym e; begun = λ us vs h j more. rw (first_of_none us vs h) (empty j more); tail = []; complete = λ j. fills j }

pub end_ending : {I A : Type 0} (x x' : I → A) → Ending (λ i. g.◌>>◌ g.end (g.done (x i))) (λ i. g.◌>>◌ g.end (g.done (x' i)))
end_ending x x' = record {
  front = λ i ts rest f. no_more (λ j more. inl refl) (λ j. (x' j, (tt, [], (refl, refl), (refl, refl)))) ts rest (elim f [ inl e ↦ e | inr w ↦ w.3 ∙ w.2.1 ∙ sym w.2.0 ]);
  deep = λ i ts rest d. absurd (elim d [ inl h ↦ h | inr w ↦ w.3 ]);
}

pub either_ending : {I A : Type 0} {P P' Q Q' : I → Part A} → Ending P P' → Ending Q Q' → Ending (λ i. g.either (P i) (Q i)) (λ i. g.either (P' i) (Q' i))
either_ending x y = record {
  front = λ i ts rest f. elim f [
    | inl u ↦ let h = x.front i ts rest u in record { tokens = h.tokens; are = h.are; begun = λ us vs e j more. inl (h.begun us vs e j more); tail = h.tail; complete = λ j. let b = h.complete j in (b.0, inl b.1) }
    | inr u ↦ let h = y.front i ts rest u in record { tokens = h.tokens; are = h.are; begun = λ us vs e j more. inr (h.begun us vs e j more); tail = h.tail; complete = λ j. let b = h.complete j in (b.0, inr b.1) }
  ];
  deep = λ i ts rest d. elim d [
    | inl u ↦ let h = x.deep i ts rest u in record { tokens = h.tokens; are = h.are; again = λ j r more. inl (h.again j r more); fronts = λ j r more. inl (h.fronts j r more) }
    | inr u ↦ let h = y.deep i ts rest u in record { tokens = h.tokens; are = h.are; again = λ j r more. inr (h.again j r more); fronts = λ j r more. inr (h.fronts j r more) }
  ];
}

-- a part, and then one that ends all
pub after_ending : {I A B : Type 0} {p p' : Part A} {M M' : I → Part B} (f : I → A → I) → Regular p p' → IsFilled M' → Ending M M' → Ending (λ i. g.◌>>=◌ p (λ a. M (f i a))) (λ i. g.◌>>=◌ p' (λ a. M' (f i a)))
after_ending {I} {A} {B} {p} {p'} {M} {M'} f x filled y = record {
  front = λ i ts rest h. elim h [
    | inl u ↦
        let v = x.alike.front tt ts rest u in
        record {
          tokens = v.tokens;
          are = v.are;
          begun = λ us vs e j more. inl (v.begun us vs e tt tt more);
          tail = v.tail ++ [];
          complete = λ j. let a = v.complete tt tt [] in let c = filled (f j a.0) in (c.0, (a.0, [], a.1, c.1));
        }
    | inr w ↦
        let v = x.alike.whole tt ts w.0 w.1 w.2 in
        let u = y.front (f i w.0) w.1 rest w.3 in
        record {
          tokens = v.tokens ++ u.tokens;
          are = both ts w.1 rest v.tokens u.tokens v.are u.are;
          begun = λ us vs e j more. begun w.0 j more us vs v.tokens u.tokens v.again v.begun u.begun (cut v.tokens u.tokens us vs e);
          tail = u.tail;
          complete = λ j.
              let a = v.deeper tt tt (u.tokens ++ u.tail) in
              let c = u.complete (f j a.0) in
              (c.0, (a.0, u.tokens ++ u.tail, subst (λ us. p'.Whole us a.0 (u.tokens ++ u.tail)) (sym (append_assoc v.tokens u.tokens u.tail)) a.1, c.1));
        }
  ];
  deep = λ i ts rest d. elim d [
    | inl h ↦ let v = x.alike.deep tt ts rest h in record { tokens = v.tokens; are = v.are; again = λ j r more. inl (v.again tt tt more); fronts = λ j r more. inl (v.fronts tt tt more) }
    | inr w ↦
        let v = x.alike.whole tt ts w.0 w.1 w.2 in
        let u = y.deep (f i w.0) w.1 rest w.3 in
        record {
          tokens = v.tokens ++ u.tokens;
          are = both ts w.1 rest v.tokens u.tokens v.are u.are;
          again = λ j r more.
              let a = v.again tt tt (u.tokens ++ more) in
              inr (a.0, u.tokens ++ more, subst (λ us. p.Whole us a.0 (u.tokens ++ more)) (sym (append_assoc v.tokens u.tokens more)) a.1, u.again (f j a.0) tt more);
          fronts = λ j r more.
              let a = v.deeper tt tt (u.tokens ++ more) in
              inr (a.0, u.tokens ++ more, subst (λ us. p'.Whole us a.0 (u.tokens ++ more)) (sym (append_assoc v.tokens u.tokens more)) a.1, u.fronts (f j a.0) tt more);
        }
  ];
} where
  both : (ts middle rest us vs : List Token) → ts ≡ us ++ middle → middle ≡ vs ++ rest → ts ≡ (us ++ vs) ++ rest
  both ts middle rest us vs e h = e ∙ ap (λ l. us ++ l) h ∙ sym (append_assoc us vs rest)

  begun : (a : A) (j : I) (more us vs xs ys : List Token) → ((k : Unit {0}) → Any {A = Unit {0}} tt k → (rest : List Token) → (b : A) × p.Whole (xs ++ rest) b rest × Any a b)
      → ((zs ws : List Token) → xs ≡ zs ++ ws → (k : Unit {0}) → Any {A = Unit {0}} tt k → (rest : List Token) → p.Front (zs ++ rest) rest)
      → ((zs ws : List Token) → ys ≡ zs ++ ws → (k : I) (rest : List Token) → (M k).Front (zs ++ rest) rest)
      → Cut xs ys us vs → (g.◌>>=◌ p (λ b. M (f j b))).Front (us ++ more) more
  begun a j more us vs xs ys again first second (in_first zs e h) = inl (first us zs e tt tt more)
  begun a j more us vs xs ys again first second (in_second zs e h) =
      let b = again tt tt (zs ++ more) in
      subst (λ l. (g.◌>>=◌ p (λ c. M (f j c))).Front (l ++ more) more) (sym e)
      (inr (b.0, zs ++ more, subst (λ l. p.Whole l b.0 (zs ++ more)) (sym (append_assoc xs zs more)) b.1, second zs vs h (f j b.0) more))

-- a repetition that ends all, whatever number of turns it has
pub turns_ending : {X A : Type 0} {turn turn' : (X → Part A) → X → Part A} → ((M M' : X → Part A) → IsFilled M' → Ending M M' → Ending (turn M) (turn' M')) → ((M : X → Part A) → IsFilled (turn' M)) → (n : ℕ) → Ending (g.turns turn n) (g.turns turn' (suc n))
turns_ending step last zero = record { front = λ i ts rest e. no_more (λ j more. refl) (last (λ x. g.never)) ts rest e; deep = λ i ts rest h. absurd h }
turns_ending {turn} {turn'} step last (suc n) = step (g.turns turn n) (g.turns turn' (suc n)) (filled n) (turns_ending step last n) where
  filled : (m : ℕ) → IsFilled (g.turns turn' (suc m))
  filled m = last (g.turns turn' m)

pub turning_ending : {X A : Type 0} {turn turn' : (X → Part A) → X → Part A} → ((M M' : X → Part A) → IsFilled M' → Ending M M' → Ending (turn M) (turn' M')) → ((M : X → Part A) → IsFilled (turn' M)) → Ending (g.turning turn) (g.turning turn')
turning_ending step last = record {
  front = λ i ts rest f. let h = (turns_ending step last f.0).front i ts rest f.1 in record { tokens = h.tokens; are = h.are; begun = λ us vs e j more. (f.0, h.begun us vs e j more); tail = h.tail; complete = λ j. let b = h.complete j in (b.0, (suc f.0, b.1)) };
  deep = λ i ts rest d. let h = (turns_ending step last d.0).deep i ts rest d.1 in record { tokens = h.tokens; are = h.are; again = λ j r more. (d.0, h.again j r more); fronts = λ j r more. (suc d.0, h.fronts j r more) };
}
