-- Arrows by ids that are told apart by the types that the ids mean.
use Rattle.std.specs.Prelude.{◌≡◌, ℕ, List, Option, Some, slice_get}
use Rattle.simplicity.specs.Types.{Kind}
use Rattle.infer_cells.specs.Typings.{arrow_in}
use Rattle.infer_cells.specs.declared.typing.NodeArrow.{NodeArrow}

-- arrows of the list that mean one arrow are equal
pub record AreTold (kinds : List Kind) (arrows : List (Option NodeArrow)) : Type 0 where
  pub same : (i j : ℕ) (a b : Option NodeArrow) → slice_get arrows i ≡ Some a → slice_get arrows j ≡ Some b → arrow_in kinds a ≡ arrow_in kinds b → a ≡ b
