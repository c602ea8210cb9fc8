-- Invariants of `powers`: reads the parts of a natural that begins at a place: each has as many bits as
-- the value before says.
use Rattle.std.proofs.Common.{◌≡◌, ◌<◌, ◌≤◌, ◌^◌, ◌-◌}
use Rattle.spelling.specs.Reading.{number}
use Rattle.spelling.specs.Parts.{powers}
use Rattle.cell_bits.specs.Places.{rest}
use Rattle.cell_bits.proofs.Reading.{digits_from}
use Rattle.cell_bits.proofs.reader.BitReader.powers.Given as goal

abbrev pub invariant-loop-left : goal.invariant-loop-left
invariant-loop-left l =
    (powers l.start l.count 1 l.fn.self.at (rest l.fn.self) ≡ powers l.start l._left l.value l.self.at (rest l.self))
    × (l.self.bits ≡ l.fn.self.bits) × (1 ≤ l.value) × (l.value < 2 ^ 32)

abbrev pub decreases-loop-left : goal.decreases-loop-left
decreases-loop-left l = l._left
