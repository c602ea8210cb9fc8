-- Invariants of `packed`: the bytes that whole bytes of bits are.
use Rattle.std.proofs.Common.{◌≡◌, ◌%◌, ◌++◌, length}
use Rattle.simplicity.specs.Spelling.{byte_bits}
use Rattle.cell_bits.proofs.writer.packed.Given as goal

abbrev pub invariant-loop-rest : goal.invariant-loop-rest
invariant-loop-rest l = (byte_bits l.bytes.items ++ l.rest ≡ l.bits) × (length l.rest % 8 ≡ 0)

abbrev pub decreases-loop-rest : goal.decreases-loop-rest
decreases-loop-rest l = length l.rest
