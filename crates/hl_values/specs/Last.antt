-- The last of the core values that wait to be put together.
use Rattle.std.specs.Prelude.{◌≡◌, ℕ, List, ◌++◌, length, Option, Some}
use Rattle.core_data.specs.declared.data.CoreValue.{CoreValue}
use Rattle.core_data.specs.Data.{value_of, values_of}
use Rattle.simplicity.specs.Types.{Value}

-- so many of the last values were taken, and one was made of them
pub record TakesLast (old new : List CoreValue) (count : ℕ) (making : List Value → Option Value) (made : CoreValue) : Type 0 where
  pub takes : (front back : List CoreValue) → old ≡ front ++ back → length back ≡ count → (new ≡ front) × (making (values_of back) ≡ Some (value_of made))
