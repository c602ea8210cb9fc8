-- Laws of the grammar.
use Rattle.std.specs.Prelude.{◌≡◌, ℕ, List, ◌++◌, ◌⊎◌}
use Rattle.hl_syntax.specs.declared.token.Span.{Span}
use Rattle.hl_syntax.specs.declared.token.Token.{Token}
use Rattle.simplicityhl.specs.Parts.{Part}
use Rattle.simplicityhl.specs.Grammar.{most_depth, Stands, Is}
use Rattle.simplicityhl.specs.Viable.{IsViable, IsDeep, IsShallow, IsDeadPlace, IsFirstDeep, IsSyntaxError}

-- tokens are one tree at most
abbrev pub IsOne : {A : Type 0} → (ℕ → Part A) → Type 0
IsOne {A} part = (ts : List Token) (a b : A) → Is part ts a → Is part ts b → a ≡ b

-- Viable are the tokens with which some tokens of the grammar begin, and so are their beginnings.
-- Tokens have one dead place at most, and one first token at which something begins that is nested
-- too deep. Tokens up to such a one are viable, but begin nothing that is nested as deep as allowed.
-- All tokens are of one of three kinds: a tree in which nothing is nested too deep; none, dead at a place, with nothing nested too
-- deep; or with a first token at which something begins that is.
pub record HasFronts {A : Type 0} (part : ℕ → Part A) : Type 0 where
  pub beginnings : (us vs : List Token) → IsViable part (us ++ vs) → IsViable part us
  pub begun : (us vs : List Token) (tree : A) → Is part (us ++ vs) tree → IsViable part us
  pub completed : (ts : List Token) → IsViable part ts → (more : List Token) × (tree : A) × Is part (ts ++ more) tree
  pub one_place : (ts : List Token) (end : ℕ) (at at' : Span) → IsDeadPlace part ts end at → IsDeadPlace part ts end at' → at ≡ at'
  pub one_deep : (ts : List Token) (at at' : Span) → IsFirstDeep part ts at → IsFirstDeep part ts at' → at ≡ at'
  pub deep : (ts : List Token) → IsDeep part ts → IsViable part ts
  pub too_far : (us vs : List Token) (tree : A) → IsDeep part us → Stands part most_depth (us ++ vs) tree → ⊥
  pub sorted : (ts : List Token) (end : ℕ) → ((tree : A) × Stands part most_depth ts tree × IsShallow part ts) ⊎ (((at : Span) × IsSyntaxError part ts end at) ⊎ ((at : Span) × IsFirstDeep part ts at))
