-- Invariants of `ones`: reads ones and the zero after them, and counts the ones.
use Rattle.std.proofs.Common.{◌≡◌, ◌≤◌, length}
use Rattle.spelling.specs.Parts.{ones}
use Rattle.cell_bits.specs.Places.{rest}
use Rattle.cell_bits.proofs.Reading.{ones_from}
use Rattle.cell_bits.proofs.reader.BitReader.ones.Given as goal

abbrev pub invariant-loop : goal.invariant-loop
invariant-loop l =
    (ones l.fn.self.at (rest l.fn.self) ≡ ones_from l.fn.self.at l.self.at (rest l.self))
    × (l.self.bits ≡ l.fn.self.bits) × (l.fn.self.at ≤ l.self.at) × (l.start ≡ l.fn.self.at)

abbrev pub decreases-loop : goal.decreases-loop
decreases-loop l = length (rest l.self)
