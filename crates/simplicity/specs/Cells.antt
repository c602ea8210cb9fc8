-- Values as cells of the Bit Machine (Simplicity Technical Report, "Bit Machine", representing values).
use Rattle.std.specs.Prelude.{ℕ, Bool, true, false, List, [], ◌∷◌, ◌++◌, replicate}
use Rattle.simplicity.specs.Types.{Kind, Sum, Product, Value, Inl, Inr, Pair, pad_left, pad_right}

-- a cell: a bit, or undefined
pub data Cell : Type 0 where
  Bit : (bit : Bool) → Cell
  Undefined : Cell

-- so many undefined cells
abbrev pub undefined : ℕ → List Cell
undefined n = replicate n Undefined

-- the cells of a value of a type: after each tag the padding of its side; the last case is none of a value of the type
abbrev pub cells : Kind → Value → List Cell
cells (Sum a b) (Inl u) = Bit false ∷ (undefined (pad_left a b) ++ cells a u)
cells (Sum a b) (Inr v) = Bit true ∷ (undefined (pad_right a b) ++ cells b v)
cells (Product a b) (Pair u v) = cells a u ++ cells b v
cells _ _ = []
