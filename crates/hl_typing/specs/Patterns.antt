-- Patterns at their types: the variables that they bind, in the text's order.
use Rattle.std.specs.Prelude.{◌≡◌, ℕ, false, List, [], ◌∷◌, ◌++◌, replicate}
use Rattle.hl_syntax.specs.declared.kinds.HlType.{HlType}
use Rattle.hl_syntax.specs.declared.kinds.HlType.TheVariants as kind
use Rattle.hl_syntax.specs.declared.kinds.TypedName.{TypedName}
use Rattle.hl_syntax.specs.declared.tree.Pattern.{Pattern}
use Rattle.hl_syntax.specs.declared.tree.PatternForm.{PatternForm}
use Rattle.hl_syntax.specs.declared.tree.PatternForm.TheVariants as patterns
use Rattle.hl_rules.specs.Places.{Scope, has_name}

-- no name stands twice
abbrev pub Once : List TypedName → Type 0
Once [] = Unit {0}
Once (n ∷ names) = (has_name names n.name ≡ false) × Once names

-- a pattern of a form at a type, or patterns at as many types
pub data Matched : Type 0 where
  PatternAt : HlType → PatternForm → Matched
  PatternsAt : List HlType → List Pattern → Matched

pub data Binds : Matched → Scope → Type 0 where
  name : (k : HlType) (word : List ℕ) → Binds (PatternAt k (patterns.Name word)) (record { name = word; kind = k } ∷ [])
  ignored : (k : HlType) → Binds (PatternAt k patterns.Ignore) []
  tuple : (ks : List HlType) (ps : List Pattern) (names : Scope) → Binds (PatternsAt ks ps) names →
      Binds (PatternAt (kind.Tuple ks) (patterns.Tuple ps)) names
  array : (item : HlType) (count : ℕ) (ps : List Pattern) (names : Scope) → Binds (PatternsAt (replicate count item) ps) names →
      Binds (PatternAt (kind.Array item count) (patterns.Array ps)) names
  no_more : Binds (PatternsAt [] []) []
  one_more : (k : HlType) (ks : List HlType) (p : Pattern) (ps : List Pattern) (names more : Scope) →
      Binds (PatternAt k p.form) names → Binds (PatternsAt ks ps) more → Binds (PatternsAt (k ∷ ks) (p ∷ ps)) (names ++ more)

-- a pattern at a type binds these variables, each name once
pub record BindsOnce (k : HlType) (p : Pattern) (names : Scope) : Type 0 where
  pub binds : Binds (PatternAt k p.form) names
  pub once : Once names
