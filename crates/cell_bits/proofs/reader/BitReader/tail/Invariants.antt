-- Invariants of `tail`: tests that the rest is fewer than eight zeros.
use Rattle.std.proofs.Common.{◌≡◌, ◌-◌, drop}
use Rattle.spelling.specs.Reading.{padding, padding_after}
use Rattle.cell_bits.specs.Places.{rest}
use Rattle.cell_bits.proofs.reader.BitReader.tail.Given as goal

abbrev pub invariant-loop-place : goal.invariant-loop-place
invariant-loop-place l =
    padding (tt {0}) l.self.at (rest l.self) ≡ padding_after l.self.at (l.place - l.self.at) (tt {0}) l.place (drop l.place l.self.bits)
