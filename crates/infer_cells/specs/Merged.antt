-- What two cells hold once they are one.
use Rattle.std.specs.Prelude.{ℕ, List, [], ◌∷◌, Option, Some, None}
use Rattle.infer_cells.specs.declared.cell.Cell.{Cell}
use Rattle.infer_cells.specs.declared.cell.Cell.TheVariants as cell
use Rattle.infer_cells.specs.declared.cell.Equation.{Equation}

-- the content of both, where there is one
abbrev pub merged : Cell → Cell → Option Cell
merged cell.Free d = Some d
merged cell.One cell.Free = Some cell.One
merged cell.One cell.One = Some cell.One
merged (cell.Sum a b) cell.Free = Some (cell.Sum a b)
merged (cell.Sum a b) (cell.Sum c d) = Some (cell.Sum a b)
merged (cell.Product a b) cell.Free = Some (cell.Product a b)
merged (cell.Product a b) (cell.Product c d) = Some (cell.Product a b)
merged _ _ = None

abbrev pub equation : ℕ → ℕ → Equation
equation a b = record { left = a; right = b }

-- the equations of the parts
abbrev pub merged_parts : Cell → Cell → List Equation
merged_parts (cell.Sum a b) (cell.Sum c d) = equation a c ∷ equation b d ∷ []
merged_parts (cell.Product a b) (cell.Product c d) = equation a c ∷ equation b d ∷ []
merged_parts _ _ = []
