-- Cells that stand for types not known yet, and the assignments of types that solve them.
use Rattle.std.specs.Prelude.{◌≡◌, ℕ, suc, ◌+◌, ◌*◌, ◌<◌, Bool, true, false, List, [], ◌∷◌, length, count_by, slice_get, Some}
use Rattle.simplicity.specs.Types.{Kind, One, Sum, Product}
use Rattle.infer_cells.specs.declared.cell.Cell.{Cell}
use Rattle.infer_cells.specs.declared.cell.Cell.TheVariants as cell
use Rattle.infer_cells.specs.declared.cell.Equation.{Equation}
use Rattle.infer_cells.specs.declared.refusal.SolveRefusal.{SolveRefusal}
use Rattle.infer_cells.specs.declared.refusal.SolveRefusal.TheVariants as refusal

-- a type for each cell
abbrev pub Assignment : Type 0
Assignment = ℕ → Kind

-- a type goes with what a cell holds: any with a free cell, else that of the other cell, or the one made of the parts' types
abbrev pub Fits : Assignment → Kind → Cell → Type 0
Fits f x cell.Free = Unit {0}
Fits f x (cell.Link j) = x ≡ f j
Fits f x cell.One = x ≡ One
Fits f x (cell.Sum a b) = x ≡ Sum (f a) (f b)
Fits f x (cell.Product a b) = x ≡ Product (f a) (f b)

-- the cells from a number on have types that go with them
abbrev pub FitFrom : Assignment → ℕ → List Cell → Type 0
FitFrom f i [] = Unit {0}
FitFrom f i (c ∷ cs) = Fits f (f i) c × FitFrom f (suc i) cs

-- both sides of each equation have one type
abbrev pub AreEqual : Assignment → List Equation → Type 0
AreEqual f [] = Unit {0}
AreEqual f (e ∷ es) = (f e.left ≡ f e.right) × AreEqual f es

-- the assignment solves cells and equations
pub record Solution (f : Assignment) (cells : List Cell) (es : List Equation) : Type 0 where
  pub fits : FitFrom f 0 cells
  pub equal : AreEqual f es

pub record SameSolutions (cells : List Cell) (es : List Equation) (new_cells : List Cell) (new_es : List Equation) : Type 0 where
  pub forth : (f : Assignment) → Solution f cells es → Solution f new_cells new_es
  pub back : (f : Assignment) → Solution f new_cells new_es → Solution f cells es

pub record NoSolution (cells : List Cell) (es : List Equation) : Type 0 where
  pub none : (f : Assignment) → Solution f cells es → ⊥

-- what a refusal for want of a typing says
abbrev pub OnNoTyping : SolveRefusal → Type 0 → Type 0
OnNoTyping refusal.NoTyping fact = fact
OnNoTyping _ fact = Unit {0}

-- a cell at a number names parts among so many cells, and links to a lower number
abbrev pub IsPlacedCell : ℕ → ℕ → Cell → Type 0
IsPlacedCell n i cell.Free = Unit {0}
IsPlacedCell n i (cell.Link j) = j < i
IsPlacedCell n i cell.One = Unit {0}
IsPlacedCell n i (cell.Sum a b) = (a < n) × (b < n)
IsPlacedCell n i (cell.Product a b) = (a < n) × (b < n)

abbrev pub PlacedFrom : ℕ → ℕ → List Cell → Type 0
PlacedFrom n i [] = Unit {0}
PlacedFrom n i (c ∷ cs) = IsPlacedCell n i c × PlacedFrom n (suc i) cs

pub record ArePlaced (cells : List Cell) : Type 0 where
  pub each : PlacedFrom (length cells) 0 cells

-- the equations are of so many cells
abbrev pub AreWithin : ℕ → List Equation → Type 0
AreWithin n [] = Unit {0}
AreWithin n (e ∷ es) = (e.left < n) × (e.right < n) × AreWithin n es

-- a cell that links to no other
abbrev pub is_root : Cell → Bool
is_root (cell.Link j) = false
is_root _ = true

-- two cells without a link, the first of a lower number
pub record RootPair (cells : List Cell) (low high : ℕ) (c d : Cell) : Type 0 where
  pub order : low < high
  pub first : slice_get cells low ≡ Some c
  pub second : slice_get cells high ≡ Some d
  pub first_root : is_root c ≡ true
  pub second_root : is_root d ≡ true

-- what is left to do: first the cells without a link, then the equations
abbrev pub load : List Cell → List Equation → ℕ
load cells es = 2 * count_by is_root cells + length es
