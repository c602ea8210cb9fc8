-- Invariants of `finish`: the bits in whole bytes, the first bit the most significant, with fewer than
-- eight zeros after the last.
use Rattle.std.proofs.Common.{◌≡◌, ◌++◌, false, replicate}
use Rattle.cell_bits.proofs.writer.BitWriter.finish.Given as goal

abbrev pub invariant-loop : goal.invariant-loop
invariant-loop l = l.bits.items ≡ l.fn.self ++ replicate l.counter false
