-- What the code's answers say of a reading (this project's own).
use Rattle.std.specs.Prelude.{◌≡◌, ℕ, List, ◌++◌, Bool, Result, Ok, Err}
use Rattle.simplicity.specs.Nodes.{Node, CanFollow}
use Rattle.spelling.specs.Reading.{Read, Got, Refused, Reading, in_place}
use Rattle.spelling.specs.Reading as reading
use Rattle.cell_bits.specs.Places.{Place, rest}
use Rattle.cell_bits.specs.declared.refusal.BitRefusal.{BitRefusal}
use Rattle.cell_bits.specs.declared.refusal.BitRefusal.TheVariants as bit
use Rattle.bit_codec.specs.declared.refusal.CodecRefusal.{CodecRefusal}
use Rattle.bit_codec.specs.declared.refusal.CodecRefusal.TheVariants as codec

-- a reader's refusal, as one of a program
abbrev pub of_bits : BitRefusal → CodecRefusal
of_bits (bit.EndOfBits at) = codec.EndOfBits at
of_bits (bit.NaturalTooLarge at) = codec.NaturalTooLarge at
of_bits (bit.BadPadding at) = codec.BadPadding at

-- a reading is refused as the code says; that memory was short says nothing of it
abbrev pub Refuses : {A : Type 0} → CodecRefusal → Read A → Type 0
Refuses (codec.EndOfBits at) r = r ≡ Refused (reading.EndOfBits at)
Refuses (codec.NaturalTooLarge at) r = r ≡ Refused (reading.NaturalTooLarge at)
Refuses codec.TooManyNodes r = r ≡ Refused reading.TooManyNodes
Refuses (codec.JetCode at) r = r ≡ Refused (reading.JetCode at)
Refuses (codec.Disconnect at) r = r ≡ Refused (reading.Disconnect at)
Refuses (codec.Reserved at) r = r ≡ Refused (reading.Reserved at)
Refuses (codec.BadDistance node) r = r ≡ Refused (reading.BadDistance node)
Refuses (codec.WordTooWide node) r = r ≡ Refused (reading.WordTooWide node)
Refuses (codec.HiddenPlace node) r = r ≡ Refused (reading.HiddenPlace node)
Refuses (codec.BothHidden node) r = r ≡ Refused (reading.BothHidden node)
Refuses codec.HiddenRoot r = r ≡ Refused reading.HiddenRoot
Refuses (codec.BadPadding at) r = r ≡ Refused (reading.BadPadding at)
Refuses codec.OutOfMemory r = Unit {0}

-- what was answered, seen by a view, is what the reading gives at the place, and the reader stands behind it; or it is refused so
abbrev pub Gives : {X A : Type 0} → (X → A) → Reading A → Result X CodecRefusal → Place → Place → Type 0
Gives view reading (Ok x) old new = (reading old.at (rest old) ≡ Got (view x) new.at (rest new)) × (new.bits ≡ old.bits)
Gives view reading (Err e) old new = Refuses e (reading old.at (rest old))

-- a node may follow these, or is refused for its place
abbrev pub IsPlace : Result (Unit {0}) CodecRefusal → List Node → Node → Type 0
IsPlace (Ok u) ns n = CanFollow ns n
IsPlace (Err e) ns n = (at : ℕ) (bits : List Bool) → Refuses e (in_place ns n at bits)

-- the bits before a place, put before those behind it
abbrev pub Behind : {A : Type 0} → Reading A → ℕ → List Bool → Reading A
Behind reading start front at bits = reading start (front ++ bits)
