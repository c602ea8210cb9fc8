-- The parts of tuples by halves and the items of lists, as core values.
use Rattle.std.specs.Prelude.{◌≡◌, ℕ, List, ◌++◌, length, map, Some}
use denote.Bor.{Bor}
use Rattle.core_data.specs.declared.data.CoreValue.{CoreValue}
use Rattle.core_data.specs.Data.{value_of}
use Rattle.hl_meaning.specs.Values.{list_value}
use Rattle.simplicity.specs.Tuples.{tuple_value}
use Rattle.simplicity.specs.Types.{Value}

-- the core values that are lent
abbrev pub lent : List (Bor CoreValue) → List Value
lent values = map (λ (b : Bor CoreValue). value_of b.now) values

-- the value is a tuple of so many parts
pub record IsTuple (count : ℕ) (v : Value) : Type 0 where
  pub parts : List Value
  pub long : length parts ≡ count
  pub is : tuple_value parts ≡ v

-- the value is a list at a level
pub record IsList (level : ℕ) (v : Value) : Type 0 where
  pub items : List Value
  pub is : list_value level items ≡ Some v

-- its parts were put at the end
pub record PushesParts (old new : List (Bor CoreValue)) (count : ℕ) (v : Value) : Type 0 where
  pub pushes : (parts : List Value) → length parts ≡ count → tuple_value parts ≡ v → lent new ≡ lent old ++ parts

-- its items were put at the end
pub record PushesItems (old new : List (Bor CoreValue)) (level : ℕ) (v : Value) : Type 0 where
  pub pushes : (items : List Value) → list_value level items ≡ Some v → lent new ≡ lent old ++ items
