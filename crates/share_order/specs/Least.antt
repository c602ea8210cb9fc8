-- The least old place of each new one.
use Rattle.std.specs.Prelude.{◌≡◌, ℕ, ◌≤◌, List, length, Some, slice_get}

-- an old place went to a new one
pub record Went (old new : List ℕ) (from to : ℕ) : Type 0 where
  pub index : ℕ
  pub from_there : slice_get old index ≡ Some from
  pub to_there : slice_get new index ≡ Some to

-- for each of so many new places the least old place that went there
pub record AreLeast (old new : List ℕ) (count : ℕ) (places : List ℕ) : Type 0 where
  pub long : length places ≡ count
  pub went : (to from : ℕ) → slice_get places to ≡ Some from → Went old new from to
  pub least : (to from other : ℕ) → slice_get places to ≡ Some from → Went old new other to → from ≤ other
