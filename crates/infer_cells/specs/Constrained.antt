-- Cells whose solutions are the typings of a list with an arrow at its root.
use Rattle.std.specs.Prelude.{◌≡◌, ℕ, ◌-◌, ◌<◌, List, [], ◌∷◌, length, Option, Some, slice_get}
use Rattle.simplicity.specs.Types.{Kind, One, Sum, Product}
use Rattle.simplicity.specs.Nodes.{Node}
use Rattle.simplicity.specs.Typing.{Typing, Arrow, arrow, IsTypingAt}
use Rattle.type_table.specs.Kinds.{kind_at}
use Rattle.infer_cells.specs.declared.cell.Cell.{Cell}
use Rattle.infer_cells.specs.declared.cell.Cell.TheVariants as cell
use Rattle.infer_cells.specs.declared.cell.Equation.{Equation}
use Rattle.infer_cells.specs.declared.cell.Place.{Place}
use Rattle.infer_cells.specs.Merged.{equation}
use Rattle.infer_cells.specs.Cells.{Assignment, FitFrom, ArePlaced}
use Rattle.infer_cells.specs.Emission.{entries, ArePlacesWithin}

-- the arrow between the types of two ids
abbrev pub arrow_between : List Kind → ℕ → ℕ → Arrow
arrow_between kinds source target = arrow (kind_at kinds source) (kind_at kinds target)

-- an assignment that solves the cells and gives a typing
pub record Solves (cells : List Cell) (ps : List (Option Place)) (ts : Typing) : Type 0 where
  pub types : Assignment
  pub fits : FitFrom types 0 cells
  pub gives : entries types ps ≡ ts

-- the places of the nodes' arrows under each solution are a typing, and each typing is one
pub record AreConstrained (ns : List Node) (root : Arrow) (cells : List Cell) (ps : List (Option Place)) : Type 0 where
  pub placed : ArePlaced cells
  pub within : ArePlacesWithin (length cells) ps
  pub sound : (f : Assignment) → FitFrom f 0 cells → IsTypingAt ns root (entries f ps)
  pub complete : (ts : Typing) → IsTypingAt ns root ts → Solves cells ps ts

-- a cell holds what a row of a table of types says, whose parts have smaller ids
abbrev pub IsRowCell : List Kind → ℕ → Cell → Type 0
IsRowCell kinds id cell.Free = ⊥
IsRowCell kinds id (cell.Link j) = ⊥
IsRowCell kinds id cell.One = kind_at kinds id ≡ One
IsRowCell kinds id (cell.Sum a b) = (a < id) × (b < id) × (kind_at kinds id ≡ Sum (kind_at kinds a) (kind_at kinds b))
IsRowCell kinds id (cell.Product a b) = (a < id) × (b < id) × (kind_at kinds id ≡ Product (kind_at kinds a) (kind_at kinds b))

-- the cells are the first rows of a table of types
pub record AreRowCells (kinds : List Kind) (cells : List Cell) : Type 0 where
  pub each : (id : ℕ) (c : Cell) → slice_get cells id ≡ Some c → IsRowCell kinds id c

-- the equations of the root's arrow with the ids that it is to have; the last case is none of a list with a root
abbrev pub tie_equations : Option (Option Place) → ℕ → ℕ → List Equation
tie_equations (Some (Some p)) source target = equation p.source source ∷ equation p.target target ∷ []
tie_equations _ source target = []

abbrev pub root_equations : List (Option Place) → ℕ → ℕ → List Equation
root_equations ps source target = tie_equations (slice_get ps (length ps - 1)) source target
