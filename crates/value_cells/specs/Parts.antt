-- The parts of a value that are left to write, and their cells.
use Rattle.std.specs.Prelude.{ℕ, ◌+◌, ◌<◌, ◌≤◌, List, [], ◌∷◌, ◌++◌, length}
use Rattle.simplicity.specs.Types.{Kind, IsOf, weight}
use Rattle.simplicity.specs.Limits.{most_weight}
use Rattle.simplicity.specs.Cells.{Cell, cells}
use Rattle.core_data.specs.Data.{value_of}
use Rattle.core_data.specs.Loads.{load}
use Rattle.type_table.specs.Kinds.{kind_at}
use Rattle.value_cells.specs.declared.write.Part.{Part}

abbrev pub part_cells : List Kind → Part → List Cell
part_cells kinds p = cells (kind_at kinds p.kind) (value_of p.value.now)

-- the cells of the parts, the last one first
abbrev pub cells_left : List Kind → List Part → List Cell
cells_left kinds [] = []
cells_left kinds (p ∷ ps) = cells_left kinds ps ++ part_cells kinds p

-- how many turns the parts take
abbrev pub load_left : List Part → ℕ
load_left [] = 0
load_left (p ∷ ps) = load (value_of p.value.now) + load_left ps

-- the part is of its type, which is in the table and within the limit
pub record IsPart (kinds : List Kind) (p : Part) : Type 0 where
  pub there : p.kind < length kinds
  pub light : weight (kind_at kinds p.kind) ≤ most_weight
  pub of : IsOf (value_of p.value.now) (kind_at kinds p.kind)

abbrev pub AreParts : List Kind → List Part → Type 0
AreParts kinds [] = Unit {0}
AreParts kinds (p ∷ ps) = IsPart kinds p × AreParts kinds ps
