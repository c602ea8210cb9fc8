-- Answers to the goals of `powers`: reads the parts of a natural that begins at a place: each has as
-- many bits as the value before says.
use Rattle.std.proofs.Common.{◌<◌, arith}
use Rattle.cell_bits.proofs.Answered.{part_more, shifted}
use Rattle.cell_bits.proofs.reader.BitReader.powers.Goals as goal

pub loop-left-preserved : goal.loop-left-preserved
loop-left-preserved c =
    let small : c.loop-left.value < 32 = omega arith in
    part_more c.args.start c.args.count c.loop-left._left c.loop-left.value c.in_ok-value.field-0 _ c.args.self.now c.loop-left.self c.digits.new.self (omega arith) small
    (shifted c.loop-left.value small) c.loop-left.invariant c.in_ok-value.ensures.reads.0 c.in_ok-value.ensures.reads.1
