-- A value of a type is of a type at or above it.
use Rattle.simplicity.specs.Types.{Kind, One, Sum, Product, Value, IsOf, IsBelow}
use Rattle.core_data.specs.Above.{IsOfAbove}

below_self : (k : Kind) → IsBelow k k
below_self One = tt
below_self (Sum a b) = (below_self a, below_self b)
below_self (Product a b) = (below_self a, below_self b)

pub of_own : (v : Value) (k : Kind) → IsOf v k → IsOfAbove v k
of_own v k is = record { kind = k; is_of = is; above = below_self k }
