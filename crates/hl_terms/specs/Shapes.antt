-- Scopes of terms: what stands at which part of the input.
use Rattle.std.specs.Prelude.{ℕ, List, [], ◌∷◌, ◌++◌, length, map}
use Rattle.hl_syntax.specs.declared.kinds.HlType.{HlType}
use Rattle.hl_syntax.specs.declared.kinds.HlType.TheOpen.{HlType-F}
use Rattle.hl_syntax.specs.declared.kinds.HlType.TheViews.{out-HlType}
use Rattle.hl_syntax.specs.declared.kinds.TypedName.{TypedName}
use Rattle.hl_syntax.specs.declared.tree.Pattern.{Pattern}
use Rattle.hl_syntax.specs.declared.tree.PatternForm.TheOpen.{PatternForm-F}
use Rattle.hl_syntax.specs.declared.tree.PatternForm.TheFolds.{fold-Pattern}
use Rattle.simplicity.specs.Tuples.{halves}
use Rattle.simplicity.specs.Types.{Kind, One, Product}
use Rattle.simplicityhl.specs.Kinds.{form}

-- a part that no name is bound to, a variable, a witness that is bound before the scope, or two parts; what binds is `Both` of the
-- new part and the scope before, so the innermost stands first
pub data Shape : Type 0 where
  Ignored : (kind : Kind) → Shape
  Variable : (name : List ℕ) (kind : HlType) → Shape
  Witness : (name : List ℕ) (kind : HlType) → Shape
  Both : (first second : Shape) → Shape

-- the core type of the input
abbrev pub kind_of : Shape → Kind
kind_of (Ignored k) = k
kind_of (Variable name k) = form k
kind_of (Witness name k) = form k
kind_of (Both a b) = Product (kind_of a) (kind_of b)

-- its variables with their types, the innermost first, and its witnesses
abbrev pub variables_of : Shape → List TypedName
variables_of (Ignored k) = []
variables_of (Variable name k) = record { name = name; kind = k } ∷ []
variables_of (Witness name k) = []
variables_of (Both a b) = variables_of a ++ variables_of b

abbrev pub witnesses_of : Shape → List TypedName
witnesses_of (Ignored k) = []
witnesses_of (Variable name k) = []
witnesses_of (Witness name k) = record { name = name; kind = k } ∷ []
witnesses_of (Both a b) = witnesses_of a ++ witnesses_of b

-- parts by halves
abbrev pub joined : List Shape → Shape
joined parts = halves (length parts) (Ignored One) Both parts

-- Patterns.

abbrev pub Shaping : Type 0
Shaping = HlType → Shape

-- each at the type at its place
abbrev pub each_at : List Shaping → List HlType → List Shape
each_at (p ∷ ps) (k ∷ ks) = p k ∷ each_at ps ks
each_at _ _ = []

-- a pattern that is for another shape of type binds nothing
abbrev pub in_tuple : List Shaping → HlType-F HlType → Kind → Shape
in_tuple ps (HlType-F.Tuple ks) k = joined (each_at ps ks)
in_tuple ps _ k = Ignored k

abbrev pub in_array : List Shaping → HlType-F HlType → Kind → Shape
in_array ps (HlType-F.Array item count) k = joined (map (λ p. p item) ps)
in_array ps _ k = Ignored k

abbrev pub pattern_step : PatternForm-F Shaping Shaping → Shaping
pattern_step (PatternForm-F.Name name) k = Variable name k
pattern_step PatternForm-F.Ignore k = Ignored (form k)
pattern_step (PatternForm-F.Tuple ps) k = in_tuple ps (out-HlType k) (form k)
pattern_step (PatternForm-F.Array ps) k = in_array ps (out-HlType k) (form k)

-- what a pattern binds in a value of a type
abbrev pub pattern_shape : Pattern → HlType → Shape
pattern_shape p k = fold-Pattern Shaping Shaping pattern_step (λ q. q.form) p k

-- parameters as a tuple, and witnesses that are bound before them
abbrev pub params_shape : List TypedName → Shape
params_shape params = joined (map (λ p. Variable p.name p.kind) params)

abbrev pub witnesses_shape : List TypedName → Shape
witnesses_shape witnesses = joined (map (λ w. Witness w.name w.kind) witnesses)
