-- Answers to the goals of `digits`: reads a number's bits; after an error some of them may be read.
use Rattle.std.proofs.Common.{◌≤◌, arith}
use Rattle.cell_bits.proofs.Answered.{digit_more}
use Rattle.cell_bits.proofs.reader.BitReader.digits.Goals as goal

pub loop-left-preserved : goal.loop-left-preserved
loop-left-preserved c =
    digit_more c.args.width c.loop-left._left c.loop-left.value c.from.result c.in_ok-bit.field-0 c.args.self.now c.loop-left.self c.bit.new.self c.from.ensures
    (omega arith) (omega arith) c.loop-left.invariant c.in_ok-bit.ensures.reads.0 c.in_ok-bit.ensures.reads.1
