-- Invariants of `digits`: reads a number's bits; after an error some of them may be read.
use Rattle.std.proofs.Common.{◌≡◌, ◌<◌, ◌≤◌, ◌^◌, ◌-◌}
use Rattle.spelling.specs.Reading.{number}
use Rattle.spelling.specs.Parts.{powers}
use Rattle.cell_bits.specs.Places.{rest}
use Rattle.cell_bits.proofs.Reading.{digits_from}
use Rattle.cell_bits.proofs.reader.BitReader.digits.Given as goal

abbrev pub invariant-loop-left : goal.invariant-loop-left
invariant-loop-left l =
    (number l.width l.fn.self.at (rest l.fn.self) ≡ digits_from l.value l._left l.self.at (rest l.self))
    × (l.self.bits ≡ l.fn.self.bits) × (l.value < 2 ^ (l.width - l._left))
