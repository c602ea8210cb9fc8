-- The rows of a table, and the types that they mean.
use Rattle.std.specs.Prelude.{◌≡◌, ℕ, List, [], ◌∷◌, ◌++◌, length, slice_get, Some}
use Rattle.simplicity.specs.Types.{Kind, size, weight}
use Rattle.simplicity.specs.Limits.{capped}
use Rattle.type_table.specs.declared.shape.Shape.{Shape}
use Rattle.type_table.specs.declared.table.Measures.{Measures}
use Rattle.type_table.specs.Kinds.{kind_at, kind_in, HasShape, IsDistinct}

-- a shape, and the numbers of its type
abbrev pub Row : Type 0
Row = Shape × Measures

-- the types of rows after those that stand before them
abbrev pub kinds_after : List Kind → List Row → List Kind
kinds_after before [] = before
kinds_after before (row ∷ rows) = kinds_after (before ++ kind_in before row.0 ∷ []) rows

abbrev pub kinds_of : List Row → List Kind
kinds_of rows = kinds_after [] rows

-- a row says of its type what is so
pub record IsRow (kinds : List Kind) (id : ℕ) (row : Row) : Type 0 where
  pub shape : HasShape kinds id row.0
  pub size : row.1.size ≡ capped (size (kind_at kinds id))
  pub weight : row.1.weight ≡ capped (weight (kind_at kinds id))

-- each row is right, and no two mean one type
pub record IsTable (rows : List Row) : Type 0 where
  pub count : length (kinds_of rows) ≡ length rows
  pub each : (id : ℕ) (row : Row) → slice_get rows id ≡ Some row → IsRow (kinds_of rows) id row
  pub distinct : IsDistinct (kinds_of rows)
