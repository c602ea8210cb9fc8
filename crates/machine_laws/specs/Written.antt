-- Values and their cells: what is written is the cells, and the cells are read back.
use Rattle.std.specs.Prelude.{◌≡◌, ℕ, suc, true, false, List, [], ◌∷◌, ◌++◌, drop}
use Rattle.simplicity.specs.Types.{Kind, One, Sum, Product, Value, UnitValue, Inl, Inr, Pair, IsOf, size, pad_left, pad_right}
use Rattle.simplicity.specs.Cells.{Cell, Bit, Undefined, cells}
use Rattle.simplicity.specs.Machine.{Item, Write, Skip, writing}

-- the undefined cells in front
abbrev pub undefined_in_front : List Cell → ℕ
undefined_in_front (Undefined ∷ cs) = suc (undefined_in_front cs)
undefined_in_front _ = 0

-- the instructions that write cells: each bit, and a skip of the undefined cells behind it
abbrev pub writing_cells : List Cell → List Item
writing_cells [] = []
writing_cells (Bit b ∷ cs) = Write b ∷ Skip (undefined_in_front cs) ∷ writing_cells cs
writing_cells (Undefined ∷ cs) = writing_cells cs

-- the value of a type whose cells stand in front; the last case is none of such cells
abbrev pub value_in : Kind → List Cell → Value
value_in One cs = UnitValue
value_in (Product a b) cs = Pair (value_in a cs) (value_in b (drop (size a) cs))
value_in (Sum a b) (Bit false ∷ cs) = Inl (value_in a (drop (pad_left a b) cs))
value_in (Sum a b) (Bit true ∷ cs) = Inr (value_in b (drop (pad_right a b) cs))
value_in (Sum a b) _ = UnitValue

-- a value's instructions are those of its cells, and the value is read back from them
pub record CellsAreValues : Type 0 where
  pub written : (k : Kind) (v : Value) → IsOf v k → writing k v ≡ writing_cells (cells k v)
  pub back : (k : Kind) (v : Value) (rest : List Cell) → IsOf v k → value_in k (cells k v ++ rest) ≡ v
