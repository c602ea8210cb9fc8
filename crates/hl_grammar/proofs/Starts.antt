-- What the first token and the symbol after it say.
use Rattle.std.proofs.Common.{◌≡◌, Bool, true, false, cond, not, List, [], ◌∷◌, refl, subst, ◌⊎◌, inl, inr, Option, Some}
use Rattle.hl_syntax.specs.declared.token.Token.{Token}
use Rattle.hl_syntax.specs.declared.token.TokenKind.{TokenKind}
use Rattle.hl_syntax.specs.declared.token.Symbol.{Symbol}
use Rattle.simplicityhl.specs.Parts.{Part}
use Rattle.simplicityhl.specs.Parts as g
use Rattle.simplicityhl.specs.Grammar.{is_symbol}
use Rattle.hl_grammar.specs.Readers.{first_is}
use Rattle.hl_grammar.specs.Read.{next_symbol, first_two}
use Rattle.hl_grammar.proofs.Exact.{Shows, Told}
use Rattle.hl_grammar.proofs.Tokens.{Begins, shows_one, symbol_kind, is_quiet, calm}

-- How a part begins: its first token and the symbol after it tell it. A front of it may also be its
-- first token alone, of which something is known.
pub record Opening {L A : Type 0} (free : List Token → Bool) (start : TokenKind → Option Symbol → Option L) (Heads : TokenKind → Type 0) (l : L) (p : Part A) : Type 0 where
  pub whole : (ts : List Token) (a : A) (rest : List Token) → p.Whole ts a rest → free rest ≡ true → first_two start ts ≡ Some l
  pub front : (ts rest : List Token) → p.Front ts rest → (rest ≡ ts) ⊎ (((t : Token) × (ts ≡ t ∷ rest) × Heads t.kind) ⊎ (first_two start ts ≡ Some l))
  pub deep : (ts rest : List Token) → p.Deep ts rest → first_two start ts ≡ Some l

-- by the first token
pub opens_shown : {L A : Type 0} {start : TokenKind → Option Symbol → Option L} {l : L} {p : Part A} (free : List Token → Bool) (Heads : TokenKind → Type 0) → Shows (first_two start) (Some l) p → Opening free start Heads l p
opens_shown free Heads s = record {
  whole = λ ts a rest w quiet. s.whole ts a rest w;
  front = λ ts rest h. elim (s.front ts rest h) [ inl e ↦ inl e | inr k ↦ inr (inr k) ];
  deep = s.deep;
}

pub shows_start : {L A : Type 0} {l : L} (start : TokenKind → Option Symbol → Option L) (fits : TokenKind → Bool) (value : Token → A) → ((k : TokenKind) (next : Option Symbol) → fits k ≡ true → start k next ≡ Some l) → Shows (first_two start) (Some l) (g.one fits value)
shows_start start fits value so = shows_one fits value (λ t us h. so t.kind (next_symbol us) h)

next_is : (s : Symbol) (us : List Token) → first_is (is_symbol s) us ≡ true → next_symbol us ≡ Some s
next_is s [] h = absurd (let no : ⊥ = cc in no)
next_is s (u ∷ us) h = rw (symbol_kind s u.kind h) refl

-- by the first token and a symbol that begins what follows it
pub opens_pair : {L A B : Type 0} {start : TokenKind → Option Symbol → Option L} {Heads : TokenKind → Type 0} {l : L} {q : A → Part B} (free : List Token → Bool) (fits : TokenKind → Bool) (value : Token → A) (s : Symbol)
    → ((k : TokenKind) → fits k ≡ true → start k (Some s) ≡ Some l) → ((k : TokenKind) → fits k ≡ true → Heads k) → ((a : A) → Begins (is_symbol s) true (q a)) → Opening free start Heads l (g.◌>>=◌ (g.one fits value) q)
opens_pair {start} {Heads} {l} {q} free fits value s so head next = record {
  whole = λ ts b rest w quiet. both ts w.2.0 w.1 w.2.1 w.2.2 (next_is s w.1 ((next w.0).whole w.1 b rest w.3));
  front = λ ts rest h. elim h [
    | inl f ↦ elim f [ inl e ↦ inl e | inr u ↦ inr (inl (u.0, u.1, head u.0.kind u.2)) ]
    | inr v ↦ elim ((next v.0).front v.1 rest v.3) [
      | inl e ↦ inr (inl (v.2.0, subst (λ us. ts ≡ v.2.0 ∷ us) (rw e refl) v.2.1, head v.2.0.kind v.2.2))
      | inr k ↦ inr (inr (both ts v.2.0 v.1 v.2.1 v.2.2 (next_is s v.1 k)))
    ]
  ];
  deep = λ ts rest h. elim h [ inl e ↦ absurd e | inr v ↦ both ts v.2.0 v.1 v.2.1 v.2.2 (next_is s v.1 ((next v.0).deep v.1 rest v.3)) ];
} where
  both : (ts : List Token) (t : Token) (us : List Token) → ts ≡ t ∷ us → fits t.kind ≡ true → next_symbol us ≡ Some s → first_two start ts ≡ Some l
  both ts t us e h k = rw (e, k) (so t.kind h)

-- a token alone, which no symbol goes on
pub opens_quiet : {L A B : Type 0} {start : TokenKind → Option Symbol → Option L} {Heads : TokenKind → Type 0} {l : L} (fits : TokenKind → Bool) (value : Token → A) (make : A → B)
    → ((k : TokenKind) (next : Option Symbol) → fits k ≡ true → is_quiet next ≡ true → start k next ≡ Some l) → ((k : TokenKind) → fits k ≡ true → Heads k) → Opening calm start Heads l (g.◌>>=◌ (g.one fits value) (λ a. g.done (make a)))
opens_quiet fits value make so head = record {
  whole = λ ts b rest w quiet. rw w.2.1 (so w.2.0.kind (next_symbol w.1) w.2.2 (subst (λ us. calm us ≡ true) w.3.1 quiet));
  front = λ ts rest h. elim h [
    | inl f ↦ elim f [ inl e ↦ inl e | inr u ↦ inr (inl (u.0, u.1, head u.0.kind u.2)) ]
    | inr v ↦ inr (inl (v.2.0, subst (λ us. ts ≡ v.2.0 ∷ us) (rw v.3 refl) v.2.1, head v.2.0.kind v.2.2))
  ];
  deep = λ ts rest h. elim h [ inl e ↦ absurd e | inr v ↦ absurd v.3 ];
}

-- parts that are each told so, where each first token alone is a front of the part that is then told
pub told_by : {L A : Type 0} {free : List Token → Bool} {start : TokenKind → Option Symbol → Option L} {Heads : TokenKind → Type 0} {p : L → Part A} → ((l : L) → Opening free start Heads l (p l)) → ((t : Token) (us : List Token) → Heads t.kind → (m : L) × (first_two start (t ∷ us) ≡ Some m) × (p m).Front (t ∷ us) us) → Told free (first_two start) p
told_by {L} {start} {p} openings alone = record {
  whole = λ l ts a rest w quiet. (openings l).whole ts a rest w quiet;
  front = λ l ts rest h. elim ((openings l).front ts rest h) [
    | inl e ↦ inl e
    | inr u ↦ elim u [
      | inl v ↦ inr (subst (λ us. (m : L) × (first_two start us ≡ Some m) × (p m).Front us rest) (rw v.1 refl) (alone v.0 rest v.2))
      | inr k ↦ inr (l, k, h)
    ]
  ];
  deep = λ l ts rest h. (openings l).deep ts rest h;
}

-- a test that holds where another is refused
pub else_part : {A : Type 0} (b : Bool) (x y : A) → not b ≡ true → cond b x y ≡ y
else_part false x y h = refl
else_part true x y h = absurd (let no : ⊥ = cc in no)
