-- What the parts of a grammar are made of.
use Rattle.std.specs.Prelude.{◌≡◌, ℕ, zero, suc, ◌-◌, Bool, true, false, List, [], ◌∷◌, length, take, fold, ◌⊎◌}
use Rattle.hl_syntax.specs.declared.token.Span.{Span}
use Rattle.hl_syntax.specs.declared.token.Token.{Token}
use Rattle.hl_syntax.specs.declared.token.TokenKind.{TokenKind}

-- A part of the grammar, said of the tokens at the head of a list, from its first token to where
-- what is left of it begins: whether they are a whole occurrence of the part and what they then
-- stand for; whether they are a front of it, that is what an occurrence may begin with; and whether
-- they are a front of it whose last token begins what is nested deeper than the part allows.
pub record Part (A : Type 0) : Type 1 where
  pub Whole : List Token → A → List Token → Type 0
  pub Front : List Token → List Token → Type 0
  pub Deep : List Token → List Token → Type 0

-- what no tokens are; its only front is no tokens, as they are of every part
abbrev pub never : {A : Type 0} → Part A
never = record { Whole = λ ts a rest. ⊥; Front = λ ts rest. rest ≡ ts; Deep = λ ts rest. ⊥ }

-- a part where it would be nested too deep: no tokens are it, and its first token is too deep
abbrev pub too_deep : {A : Type 0} → Part A → Part A
too_deep p = record {
  Whole = λ ts a rest. ⊥;
  Front = λ ts rest. rest ≡ ts;
  Deep = λ ts rest. (t : Token) × (ts ≡ t ∷ rest) × p.Front ts rest;
}

-- no tokens, which stand for a value
abbrev pub done : {A : Type 0} → A → Part A
done x = record { Whole = λ ts a rest. (a ≡ x) × (rest ≡ ts); Front = λ ts rest. rest ≡ ts; Deep = λ ts rest. ⊥ }

-- no tokens, which stand for the place before the tokens that follow
abbrev pub here : Part (List Token)
here = record { Whole = λ ts a rest. (a ≡ ts) × (rest ≡ ts); Front = λ ts rest. rest ≡ ts; Deep = λ ts rest. ⊥ }

-- the end of all tokens
abbrev pub end : Part (Unit {0})
end = record { Whole = λ ts a rest. (ts ≡ []) × (rest ≡ []); Front = λ ts rest. rest ≡ ts; Deep = λ ts rest. ⊥ }

-- one token that passes a test; its fronts are no tokens and this token
abbrev pub one : {A : Type 0} → (TokenKind → Bool) → (Token → A) → Part A
one test value = record {
  Whole = λ ts a rest. (t : Token) × (ts ≡ t ∷ rest) × (test t.kind ≡ true) × (a ≡ value t);
  Front = λ ts rest. (rest ≡ ts) ⊎ ((t : Token) × (ts ≡ t ∷ rest) × (test t.kind ≡ true));
  Deep = λ ts rest. ⊥;
}

-- a part, and after it another, which may depend on what the first stands for; a front of both is a
-- front of the first, or the whole of the first and then a front of the other
infixl 10 ◌>>=◌
abbrev pub ◌>>=◌ : {A B : Type 0} → Part A → (A → Part B) → Part B
◌>>=◌ {A} {B} p q = record {
  Whole = λ ts b rest. (a : A) × (middle : List Token) × p.Whole ts a middle × (q a).Whole middle b rest;
  Front = λ ts rest. p.Front ts rest ⊎ ((a : A) × (middle : List Token) × p.Whole ts a middle × (q a).Front middle rest);
  Deep = λ ts rest. p.Deep ts rest ⊎ ((a : A) × (middle : List Token) × p.Whole ts a middle × (q a).Deep middle rest);
}

infixl 10 ◌>>◌
abbrev pub ◌>>◌ : {A B : Type 0} → Part A → Part B → Part B
p >> q = p >>= (λ _. q)

-- one of two parts
abbrev pub either : {A : Type 0} → Part A → Part A → Part A
either p q = record {
  Whole = λ ts a rest. p.Whole ts a rest ⊎ q.Whole ts a rest;
  Front = λ ts rest. p.Front ts rest ⊎ q.Front ts rest;
  Deep = λ ts rest. p.Deep ts rest ⊎ q.Deep ts rest;
}

-- one of many parts, each with a label
abbrev pub one_of : {L A : Type 0} → (L → Part A) → Part A
one_of {L} p = record {
  Whole = λ ts a rest. (l : L) × (p l).Whole ts a rest;
  Front = λ ts rest. (l : L) × (p l).Front ts rest;
  Deep = λ ts rest. (l : L) × (p l).Deep ts rest;
}

-- turns of a repetition, of which there may be so many: a turn is given what was found before it, and what goes on after it
abbrev pub turns : {X A : Type 0} → ((X → Part A) → X → Part A) → ℕ → X → Part A
turns turn zero found = never
turns turn (suc more) found = turn (turns turn more) found

-- a repetition: one of the parts that so many turns are
abbrev pub turning : {X A : Type 0} → ((X → Part A) → X → Part A) → X → Part A
turning turn found = record {
  Whole = λ ts a rest. (n : ℕ) × (turns turn n found).Whole ts a rest;
  Front = λ ts rest. (n : ℕ) × (turns turn n found).Front ts rest;
  Deep = λ ts rest. (n : ℕ) × (turns turn n found).Deep ts rest;
}

-- where the last of some tokens ends
abbrev pub last_end : ℕ → List Token → ℕ
last_end = fold (λ before t. t.span.end)

-- from the first of some tokens to the last
abbrev pub span_of : List Token → Span
span_of [] = record { start = 0; end = 0 }
span_of (t ∷ ts) = record { start = t.span.start; end = last_end t.span.end ts }

-- from the first token of a list to the last one before what is left of it
abbrev pub span_between : List Token → List Token → Span
span_between ts rest = span_of (take (length ts - length rest) ts)

-- a part whose value is made with its span
abbrev pub spanned : {A B : Type 0} → (A → Span → B) → Part A → Part B
spanned make p = do
  first ← here
  a ← p
  after ← here
  done (make a (span_between first after))

abbrev pub with_span : {B : Type 0} → Part (Span → B) → Part B
with_span {B} p = spanned {A = Span → B} (λ make span. make span) p

-- the first of two parts where a test holds, else the second
abbrev pub chosen : {A : Type 0} → Bool → Part A → Part A → Part A
chosen true p q = p
chosen false p q = q
