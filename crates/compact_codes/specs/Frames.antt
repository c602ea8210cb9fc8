-- What is left to do with a value once it is read (this project's own).
use Rattle.std.specs.Prelude.{◌≡◌, ℕ, ◌+◌, ◌*◌, ◌<◌, ◌≤◌, List, [], ◌∷◌, length}
use Rattle.simplicity.specs.Types.{Kind, Value, Inl, Inr, Pair, weight}
use Rattle.spelling.specs.Reading.{Read, Got, Refused, EndOfBits, Reading, then, give}
use Rattle.spelling.specs.Values.{read_value}
use Rattle.cell_bits.specs.Places.{Place, rest}
use Rattle.core_data.specs.Data.{value_of}
use Rattle.type_table.specs.Kinds.{kind_at}
use Rattle.compact_codes.specs.declared.read.Frame.{Frame}
use Rattle.compact_codes.specs.declared.read.Frame.TheVariants as frame
use Rattle.compact_codes.specs.declared.refusal.CompactRefusal.{CompactRefusal}
use Rattle.compact_codes.specs.declared.refusal.CompactRefusal.TheVariants as refusal

-- what a frame makes of the value that was read, and what it reads more
abbrev pub in_frame : List Kind → Frame → Value → Reading Value
in_frame kinds frame.Left v = give (Inl v)
in_frame kinds frame.Right v = give (Inr v)
in_frame kinds (frame.Second kind) v = λ at bits. then (read_value (kind_at kinds kind) at bits) (λ w. give (Pair v w))
in_frame kinds (frame.First first) v = give (Pair (value_of first) v)

-- what frames make of a reading, the last one first
abbrev pub after : List Kind → List Frame → Read Value → Read Value
after kinds [] read = read
after kinds (first ∷ frames) read = then (after kinds frames read) (in_frame kinds first)

-- how many turns a frame is worth at most, and frames are
abbrev pub turns : List Kind → Frame → ℕ
turns kinds (frame.Second kind) = 2 * weight (kind_at kinds kind)
turns kinds _ = 1

abbrev pub load : List Kind → List Frame → ℕ
load kinds [] = 0
load kinds (first ∷ frames) = turns kinds first + load kinds frames

-- the types that frames name are in the table
abbrev pub IsIn : List Kind → Frame → Type 0
IsIn kinds (frame.Second kind) = kind < length kinds
IsIn kinds _ = Unit {0}

abbrev pub AreIn : List Kind → List Frame → Type 0
AreIn kinds [] = Unit {0}
AreIn kinds (first ∷ frames) = IsIn kinds first × AreIn kinds frames

-- what is read from a place on
abbrev pub read_at : List Kind → ℕ → Place → Read Value
read_at kinds kind place = read_value (kind_at kinds kind) place.at (rest place)

-- the way down to the first part of a type that is the unit type: the frames that are left make of its value what those before make of the type's
pub record Descends (kinds : List Kind) (kind : ℕ) (old new : List Frame) (v : Value) (from to : Place) : Type 0 where
  pub comes : after kinds new (Got v to.at (rest to)) ≡ after kinds old (read_at kinds kind from)
  pub less : load kinds new + 1 < load kinds old + 2 * weight (kind_at kinds kind)
  pub within : AreIn kinds new

-- a reading is refused as the code says; that memory was short says nothing of it
abbrev pub Stops : CompactRefusal → Read Value → Type 0
Stops (refusal.EndOfBits at) read = read ≡ Refused (EndOfBits at)
Stops refusal.OutOfMemory read = Unit {0}

-- the bits are the same, and the reader goes on
abbrev pub GoesOn : Place → Place → Type 0
GoesOn old new = (new.bits ≡ old.bits) × (old.at ≤ new.at)
