-- Where tokens stop being the beginning of something in the grammar, and where they go too deep.
use Rattle.std.specs.Prelude.{◌≡◌, ℕ, ◌<◌, List, [], ◌∷◌, ◌++◌, length}
use Rattle.hl_syntax.specs.declared.token.Span.{Span}
use Rattle.hl_syntax.specs.declared.token.Token.{Token}
use Rattle.simplicityhl.specs.Parts.{Part}
use Rattle.simplicityhl.specs.Grammar.{most_depth, Is}

-- the tokens are a front of a part, however deep it is
abbrev pub IsViable : {A : Type 0} → (ℕ → Part A) → List Token → Type 0
IsViable part ts = (depth : ℕ) × (part depth).Front ts []

-- the tokens are a front of a part, and at the last of them begins an expression, a type or a pattern that is nested deeper than is allowed
pub record IsDeep {A : Type 0} (part : ℕ → Part A) (ts : List Token) : Type 0 where
  pub is : (part most_depth).Deep ts []

-- nothing that is nested too deep begins at any of the tokens
abbrev pub IsShallow : {A : Type 0} → (ℕ → Part A) → List Token → Type 0
IsShallow part ts = (before after : List Token) → ts ≡ before ++ after → IsDeep part before → ⊥

-- the bytes of the first of some tokens, or none at the text's end
abbrev pub place : List Token → ℕ → Span
place [] end = record { start = end; end = end }
place (t ∷ ts) end = t.span

-- the first of the tokens that come next, if there is one, can't go on with those before it
abbrev pub DiesAt : {A : Type 0} → (ℕ → Part A) → (before after : List Token) → Type 0
DiesAt part before [] = Unit {0}
DiesAt part before (t ∷ after) = IsViable part (before ++ t ∷ []) → ⊥

-- the dead place of tokens, in a text that ends there: the first token up to and with which they aren't viable, or the text's end where all of them are
pub record IsDeadPlace {A : Type 0} (part : ℕ → Part A) (ts : List Token) (end : ℕ) (at : Span) : Type 0 where
  pub before : List Token
  pub after : List Token
  pub are : ts ≡ before ++ after
  pub viable : (us vs : List Token) → before ≡ us ++ vs → IsViable part us
  pub dies : DiesAt part before after
  pub is : at ≡ place after end

-- the first token at which something begins that is nested too deep
pub record IsFirstDeep {A : Type 0} (part : ℕ → Part A) (ts : List Token) (at : Span) : Type 0 where
  pub before : List Token
  pub token : Token
  pub after : List Token
  pub are : ts ≡ before ++ token ∷ after
  pub deep : IsDeep part (before ++ token ∷ [])
  pub first : (us vs : List Token) → ts ≡ us ++ vs → IsDeep part us → length before < length us
  pub is : at ≡ token.span

-- the tokens are none of a part, nothing in them is nested too deep, and they are dead at this place
pub record IsSyntaxError {A : Type 0} (part : ℕ → Part A) (ts : List Token) (end : ℕ) (at : Span) : Type 0 where
  pub none : (tree : A) → Is part ts tree → ⊥
  pub shallow : IsShallow part ts
  pub dead : IsDeadPlace part ts end at
