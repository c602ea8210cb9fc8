-- Answers to the goals of `byte_of`: the byte that eight bits are.
use Rattle.cell_bits.proofs.Bits.{number_bits-next}
use Rattle.cell_bits.proofs.writer.byte_of.Goals as goal

pub loop-bit-preserved : goal.loop-bit-preserved
loop-bit-preserved c = number_bits-next c.args.bits.now c.loop-bit.bit-index c.loop-bit.byte c.from.result c.from.ensures c.loop-bit-test.true c.loop-bit.invariant
