-- A table of types, as its callers see it: the list of the types that its ids mean.
use Rattle.std.specs.Prelude.{◌≡◌, ℕ, ◌<◌, List, ◌++◌, length}
use Rattle.std.specs.List.{slice_index_or}
use Rattle.simplicity.specs.Types.{Kind, One, Sum, Product}
use Rattle.type_table.specs.declared.shape.Shape.{Shape}
use Rattle.type_table.specs.declared.shape.Shape.TheVariants as shape

-- the type that an id of the table means
abbrev pub kind_at : List Kind → ℕ → Kind
kind_at kinds id = slice_index_or kinds id One

-- an id is in the table, and means a type
pub record Means (kinds : List Kind) (id : ℕ) (kind : Kind) : Type 0 where
  pub within : id < length kinds
  pub is : kind_at kinds id ≡ kind

-- what ids mean stays, and more may come
pub record IsGrown (old new : List Kind) : Type 0 where
  pub more : List Kind
  pub is : new ≡ old ++ more

-- ids that mean one type are equal
pub record IsDistinct (kinds : List Kind) : Type 0 where
  pub same : (i j : ℕ) → i < length kinds → j < length kinds → kind_at kinds i ≡ kind_at kinds j → i ≡ j

-- the type of a shape whose parts are ids
abbrev pub kind_in : List Kind → Shape → Kind
kind_in kinds shape.One = One
kind_in kinds (shape.Sum left right) = Sum (kind_at kinds left) (kind_at kinds right)
kind_in kinds (shape.Product left right) = Product (kind_at kinds left) (kind_at kinds right)

-- the parts of a shape are less than the bound
abbrev pub AreBelow : ℕ → Shape → Type 0
AreBelow bound shape.One = Unit {0}
AreBelow bound (shape.Sum left right) = (left < bound) × (right < bound)
AreBelow bound (shape.Product left right) = (left < bound) × (right < bound)

-- the id's type has the shape, and the parts of it have smaller ids
pub record HasShape (kinds : List Kind) (id : ℕ) (shape : Shape) : Type 0 where
  pub parts : AreBelow id shape
  pub is : kind_at kinds id ≡ kind_in kinds shape
