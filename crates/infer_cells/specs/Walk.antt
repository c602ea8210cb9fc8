-- The least types of cells, and how far a walk that finds them is.
use Rattle.std.specs.Prelude.{◌≡◌, ℕ, ◌+◌, ◌*◌, ◌<◌, ◌⊎◌, Bool, true, false, List, [], ◌∷◌, length, count_by, slice_get, Some}
use Rattle.simplicity.specs.Types.{Kind, One, Sum, Product, weight}
use Rattle.type_table.specs.Kinds.{kind_at}
use Rattle.infer_cells.specs.declared.cell.Cell.{Cell}
use Rattle.infer_cells.specs.declared.cell.Cell.TheVariants as cell
use Rattle.infer_cells.specs.declared.walk.Mark.{Mark}
use Rattle.infer_cells.specs.declared.walk.Mark.TheVariants as mark
use Rattle.infer_cells.specs.Cells.{Assignment, FitFrom}

-- the least type of a cell: a free one's is the unit type, another's is made of the least types of its parts
pub data Least (cells : List Cell) : ℕ → Kind → Type 0 where
  LeastFree : (i : ℕ) → slice_get cells i ≡ Some cell.Free → Least cells i One
  LeastLink : (i j : ℕ) (k : Kind) → slice_get cells i ≡ Some (cell.Link j) → Least cells j k → Least cells i k
  LeastOne : (i : ℕ) → slice_get cells i ≡ Some cell.One → Least cells i One
  LeastSum : (i a b : ℕ) (k m : Kind) → slice_get cells i ≡ Some (cell.Sum a b) → Least cells a k → Least cells b m → Least cells i (Sum k m)
  LeastProduct : (i a b : ℕ) (k m : Kind) → slice_get cells i ≡ Some (cell.Product a b) → Least cells a k → Least cells b m → Least cells i (Product k m)

-- an id means the least type of a cell
pub record IsLeastId (cells : List Cell) (kinds : List Kind) (i id : ℕ) : Type 0 where
  pub within : id < length kinds
  pub least : Least cells i (kind_at kinds id)

-- there is an id for each cell
pub record AreLeastIds (cells : List Cell) (kinds : List Kind) (ids : List ℕ) : Type 0 where
  pub count : length ids ≡ length cells
  pub each : (i id : ℕ) → slice_get ids i ≡ Some id → IsLeastId cells kinds i id

-- a cell's part, or the cell that it links to
abbrev pub IsPart : Cell → ℕ → Type 0
IsPart cell.Free j = ⊥
IsPart (cell.Link k) j = j ≡ k
IsPart cell.One j = ⊥
IsPart (cell.Sum a b) j = (j ≡ a) ⊎ (j ≡ b)
IsPart (cell.Product a b) j = (j ≡ a) ⊎ (j ≡ b)

-- the cell at a number has its id
abbrev pub IsDone : List Mark → ℕ → Type 0
IsDone marks j = (id : ℕ) × (slice_get marks j ≡ Some (mark.Done id))

-- each part has its id
abbrev pub AreDone : List Mark → Cell → Type 0
AreDone marks cell.Free = Unit {0}
AreDone marks (cell.Link j) = IsDone marks j
AreDone marks cell.One = Unit {0}
AreDone marks (cell.Sum a b) = IsDone marks a × IsDone marks b
AreDone marks (cell.Product a b) = IsDone marks a × IsDone marks b

-- the same of the cell at a number
pub record IsPartAt (cells : List Cell) (i j : ℕ) : Type 0 where
  pub holder : Cell
  pub there : slice_get cells i ≡ Some holder
  pub part : IsPart holder j

abbrev pub IsReadyAt : List Cell → List Mark → ℕ → Type 0
IsReadyAt cells marks i = (c : Cell) → slice_get cells i ≡ Some c → AreDone marks c

-- the number is in the list
abbrev pub Has : List ℕ → ℕ → Type 0
Has [] j = ⊥
Has (x ∷ xs) j = (x ≡ j) ⊎ Has xs j

-- each measure after the first is below it, and so on
abbrev pub AllBelow : (ℕ → ℕ) → ℕ → List ℕ → Type 0
AllBelow r x [] = Unit {0}
AllBelow r x (y ∷ ys) = (r y < r x) × AllBelow r x ys

abbrev pub Falls : (ℕ → ℕ) → List ℕ → Type 0
Falls r [] = Unit {0}
Falls r (x ∷ xs) = AllBelow r x xs × Falls r xs

-- what falls from a cell to its parts and along a link, under any solution of so many cells
abbrev pub rank : ℕ → Assignment → ℕ → ℕ
rank n f i = weight (f i) * n + i

-- ids that are given mean least types
abbrev pub MarksMean : List Cell → List Kind → List Mark → Type 0
MarksMean cells kinds marks = (i id : ℕ) → slice_get marks i ≡ Some (mark.Done id) → IsLeastId cells kinds i id

-- a walk: its path goes from each cell to a part of it, and open cells are on it
pub record IsWalk (cells : List Cell) (kinds : List Kind) (marks : List Mark) (path : List ℕ) : Type 0 where
  pub count : length marks ≡ length cells
  pub done : MarksMean cells kinds marks
  pub open_on : (i : ℕ) → slice_get marks i ≡ Some mark.Open → Has path i
  pub within : (i : ℕ) → Has path i → i < length cells
  pub falls : (f : Assignment) → FitFrom f 0 cells → Falls (rank (length cells) f) path

-- each mark is new
abbrev pub AreNew : List Mark → Type 0
AreNew marks = (i : ℕ) (m : Mark) → slice_get marks i ≡ Some m → m ≡ mark.New

-- no cell is on the path
abbrev pub NoneIsOpen : List Mark → Type 0
NoneIsOpen marks = (i : ℕ) → slice_get marks i ≡ Some mark.Open → ⊥

-- what is left of a walk
abbrev pub is_new : Mark → Bool
is_new mark.New = true
is_new _ = false

abbrev pub walk_load : List Mark → List ℕ → ℕ
walk_load marks path = 2 * count_by is_new marks + length path
