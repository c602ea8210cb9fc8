-- The cells and equations of a node (Simplicity Technical Report, "Core Simplicity", types of terms): what its row of the typing table asks.
use Rattle.std.specs.Prelude.{ℕ, zero, suc, ◌+◌, ◌<◌, List, [], ◌∷◌, Option, Some, None, slice_get, map}
use Rattle.simplicity.specs.Nodes.{Node}
use Rattle.simplicity.specs.Nodes as node
use Rattle.simplicity.specs.Typing.{Arrow, arrow, Typing}
use Rattle.infer_cells.specs.declared.cell.Cell.{Cell}
use Rattle.infer_cells.specs.declared.cell.Cell.TheVariants as cell
use Rattle.infer_cells.specs.declared.cell.Equation.{Equation}
use Rattle.infer_cells.specs.declared.cell.Place.{Place}
use Rattle.infer_cells.specs.Cells.{Assignment}
use Rattle.infer_cells.specs.Merged.{equation}

-- the cells of a node's source and target
abbrev pub place : ℕ → ℕ → Place
place a b = record { source = a; target = b }

-- the cells of a child; the last case is none of a placed list
abbrev pub place_of : Option (Option Place) → Place
place_of (Some (Some p)) = p
place_of _ = place 0 0

abbrev pub place_at : List (Option Place) → ℕ → Place
place_at ps t = place_of (slice_get ps t)

-- new cells from a number on, new equations, and where the node's arrow is
pub record Emission : Type 0 where
  pub cells : List Cell
  pub equations : List Equation
  pub at : Option Place

abbrev pub emission : List Cell → List Equation → Place → Emission
emission cs es p = record { cells = cs; equations = es; at = Some p }

-- two types, what they are paired with, and the products and the sum of these
abbrev pub case_cells : ℕ → List Cell
case_cells n =
    cell.Free ∷ cell.Free ∷ cell.Free ∷ cell.Product n (n + 2) ∷ cell.Product (n + 1) (n + 2) ∷ cell.Sum n (n + 1) ∷ cell.Product (n + 5) (n + 2) ∷ []

-- a case, or an assertion, whose one side has no arrow; the last case is none of a placed list
abbrev pub emit_case : ℕ → Option (Option Place) → Option (Option Place) → Emission
emit_case n (Some (Some p)) (Some (Some q)) =
    emission (case_cells n) (equation p.source (n + 3) ∷ equation q.source (n + 4) ∷ equation p.target q.target ∷ []) (place (n + 6) p.target)
emit_case n (Some (Some p)) _ = emission (case_cells n) (equation p.source (n + 3) ∷ []) (place (n + 6) p.target)
emit_case n _ (Some (Some q)) = emission (case_cells n) (equation q.source (n + 4) ∷ []) (place (n + 6) q.target)
emit_case n _ _ = record { cells = []; equations = []; at = None }

-- so many products of the type before with itself
abbrev pub doubles : ℕ → ℕ → List Cell
doubles zero i = []
doubles (suc k) i = cell.Product i i ∷ doubles k (suc i)

abbrev pub word_cells : ℕ → ℕ → List Cell
word_cells k n = cell.One ∷ cell.Sum n n ∷ doubles k (suc n)

abbrev pub emitted : ℕ → List (Option Place) → Node → Emission
emitted n ps node.Iden = emission (cell.Free ∷ []) [] (place n n)
emitted n ps node.UnitNode = emission (cell.Free ∷ cell.One ∷ []) [] (place n (n + 1))
emitted n ps (node.Injl t) = emission (cell.Free ∷ cell.Sum (place_at ps t).target n ∷ []) [] (place (place_at ps t).source (n + 1))
emitted n ps (node.Injr t) = emission (cell.Free ∷ cell.Sum n (place_at ps t).target ∷ []) [] (place (place_at ps t).source (n + 1))
emitted n ps (node.Take t) = emission (cell.Free ∷ cell.Product (place_at ps t).source n ∷ []) [] (place (n + 1) (place_at ps t).target)
emitted n ps (node.Drop t) = emission (cell.Free ∷ cell.Product n (place_at ps t).source ∷ []) [] (place (n + 1) (place_at ps t).target)
emitted n ps (node.Comp s t) = emission [] (equation (place_at ps s).target (place_at ps t).source ∷ []) (place (place_at ps s).source (place_at ps t).target)
emitted n ps (node.Case s t) = emit_case n (slice_get ps s) (slice_get ps t)
emitted n ps (node.Pair s t) =
    emission (cell.Product (place_at ps s).target (place_at ps t).target ∷ []) (equation (place_at ps s).source (place_at ps t).source ∷ []) (place (place_at ps s).source n)
emitted n ps (node.Hidden h) = record { cells = []; equations = []; at = None }
emitted n ps (node.Fail e) = emission (cell.Free ∷ cell.Free ∷ []) [] (place n (n + 1))
emitted n ps node.Witness = emission (cell.Free ∷ cell.Free ∷ []) [] (place n (n + 1))
emitted n ps (node.Word k m) = emission (word_cells k n) [] (place n (n + 1 + k))

-- the arrows that an assignment gives
abbrev pub entry : Assignment → Option Place → Option Arrow
entry f None = None
entry f (Some p) = Some (arrow (f p.source) (f p.target))

abbrev pub entries : Assignment → List (Option Place) → Typing
entries f ps = map (entry f) ps

-- places among so many cells
abbrev pub IsWithinPlace : ℕ → Option Place → Type 0
IsWithinPlace n None = Unit {0}
IsWithinPlace n (Some p) = (p.source < n) × (p.target < n)

abbrev pub ArePlacesWithin : ℕ → List (Option Place) → Type 0
ArePlacesWithin n [] = Unit {0}
ArePlacesWithin n (p ∷ ps) = IsWithinPlace n p × ArePlacesWithin n ps
