-- Invariants of `read_half`: reads a number of at most 128 bits.
use Rattle.std.proofs.Common.{◌≡◌, ◌<◌, ◌^◌, ◌-◌}
use Rattle.spelling.specs.Reading.{number}
use Rattle.cell_bits.specs.Places.{rest}
use Rattle.cell_bits.proofs.Reading.{digits_from}
use Rattle.bit_codec.proofs.node.read_half.Given as goal

abbrev pub invariant-loop-left : goal.invariant-loop-left
invariant-loop-left l =
    (number l.width l.fn.bits.at (rest l.fn.bits) ≡ digits_from l.half l._left l.bits.at (rest l.bits))
    × (l.bits.bits ≡ l.fn.bits.bits) × (l.half < 2 ^ (l.width - l._left))
