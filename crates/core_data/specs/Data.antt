-- What the code's types and values stand for.
use Rattle.std.specs.Prelude.{List, map}
use Rattle.simplicity.specs.Types as core
use Rattle.simplicity.specs.Types.{Kind, Value}
use Rattle.core_data.specs.declared.data.CoreType.{CoreType}
use Rattle.core_data.specs.declared.data.CoreType.TheVariants as kind
use Rattle.core_data.specs.declared.data.CoreValue.{CoreValue}
use Rattle.core_data.specs.declared.data.CoreValue.TheVariants as value

-- the type that a type of the code is
abbrev pub kind_of : CoreType → Kind
kind_of kind.One = core.One
kind_of (kind.Sum' p left q right) = core.Sum (kind_of left) (kind_of right)
kind_of (kind.Product' p left q right) = core.Product (kind_of left) (kind_of right)

-- the value that a value of the code is
abbrev pub value_of : CoreValue → Value
value_of value.Unit = core.UnitValue
value_of (value.Left' p inner) = core.Inl (value_of inner)
value_of (value.Right' p inner) = core.Inr (value_of inner)
value_of (value.Pair' p first q second) = core.Pair (value_of first) (value_of second)

abbrev pub values_of : List CoreValue → List Value
values_of vs = map value_of vs
