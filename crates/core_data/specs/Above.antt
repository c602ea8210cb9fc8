-- Values of a type at or above another.
use Rattle.simplicity.specs.Types.{Kind, Value, IsOf, IsBelow}

-- the value is of some type at or above this one
pub record IsOfAbove (v : Value) (k : Kind) : Type 0 where
  pub kind : Kind
  pub is_of : IsOf v kind
  pub above : IsBelow k kind
