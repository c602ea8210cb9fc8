-- A reader's place in bits, and what its calls answer there (this project's own).
use Rattle.std.specs.Prelude.{◌≡◌, ℕ, List, [], Bool, length, drop, Result, Ok, Err}
use Rattle.spelling.specs.Reading.{Got, Refused, Refusal, EndOfBits, NaturalTooLarge, BadPadding, Reading, padding}
use Rattle.cell_bits.specs.declared.refusal.BitRefusal.{BitRefusal}
use Rattle.cell_bits.specs.declared.refusal.BitRefusal.TheVariants as code

-- all the bits, and the number of those before the place
pub record Place : Type 0 where
  pub bits : List Bool
  pub at : ℕ

-- the bits from the place on
abbrev pub rest : Place → List Bool
rest place = drop place.at place.bits

-- what the code's refusal stands for
abbrev pub cause : BitRefusal → Refusal
cause (code.EndOfBits at) = EndOfBits at
cause (code.NaturalTooLarge at) = NaturalTooLarge at
cause (code.BadPadding at) = BadPadding at

-- the answer is what the reading comes to at the place, and the bits stay; what was read ends at the new place
abbrev pub Reads : {A : Type 0} → Reading A → Result A BitRefusal → Place → Place → Type 0
Reads reading (Ok a) old new = (reading old.at (rest old) ≡ Got a new.at (rest new)) × (new.bits ≡ old.bits)
Reads reading (Err e) old new = (reading old.at (rest old) ≡ Refused (cause e)) × (new.bits ≡ old.bits)

-- the answer is that of the padding from the place on
abbrev pub IsTail : Result (Unit {0}) BitRefusal → Place → Type 0
IsTail (Ok u) place = padding (tt {0}) place.at (rest place) ≡ Got (tt {0}) (length place.bits) []
IsTail (Err e) place = padding (tt {0}) place.at (rest place) ≡ Refused (cause e)
