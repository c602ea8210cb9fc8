-- What is read where the compact code of a value stands (after the Simplicity Technical Report, "Serialization").
use Rattle.std.specs.Prelude.{◌≡◌, ◌+◌, List, ◌++◌, Bool, length}
use Rattle.simplicity.specs.Types.{Kind, Value, IsOf, code}
use Rattle.spelling.specs.Values.{IsCut}
use Rattle.cell_bits.specs.Places.{Place, rest}
use Rattle.compact_codes.specs.declared.refusal.CompactRefusal.{CompactRefusal}
use Rattle.compact_codes.specs.declared.refusal.CompactRefusal.TheVariants as refusal

-- the value is of the type, and its code stands between the places
pub record IsReadAt (k : Kind) (v : Value) (old new : Place) : Type 0 where
  pub is_of : IsOf v k
  pub stands : rest old ≡ code v ++ rest new
  pub place : new ≡ record { bits = old.bits; at = old.at + length (code v) }

-- the bits end inside a value of the type, at their number; that memory was short says nothing of them
abbrev pub Ends : CompactRefusal → Kind → Place → Type 0
Ends (refusal.EndOfBits at) k place = (at ≡ length place.bits) × IsCut k (rest place)
Ends refusal.OutOfMemory k place = Unit {0}

-- where the code of a value of the type stands, whatever is read there is that value, with the same bits left, and the bits don't end inside a value
pub record CodesAreInverse : Type 0 where
  pub same : (k : Kind) (v w : Value) (more : List Bool) (old new : Place) → IsOf v k → rest old ≡ code v ++ more → IsReadAt k w old new → (w ≡ v) × (rest new ≡ more)
  pub whole : (k : Kind) (v : Value) (more : List Bool) (place : Place) → IsOf v k → rest place ≡ code v ++ more → IsCut k (rest place) → ⊥
