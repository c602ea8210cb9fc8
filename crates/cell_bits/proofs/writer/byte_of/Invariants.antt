-- Invariants of `byte_of`: the byte that eight bits are.
use Rattle.std.proofs.Common.{◌≡◌, ◌<◌, ◌^◌, take}
use Rattle.simplicity.specs.Spelling.{number_bits}
use Rattle.cell_bits.proofs.writer.byte_of.Given as goal

abbrev pub invariant-loop-bit : goal.invariant-loop-bit
invariant-loop-bit l =
    (l.byte < 2 ^ l.bit-index) × (number_bits l.bit-index l.byte ≡ take l.bit-index l.bits)
