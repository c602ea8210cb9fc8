-- Answers to the goals of `append_number`: appends the last `width` bits of a number; after an error
-- some of them may stand there.
use Rattle.std.proofs.Common.{arith, ◌-◌}
use Rattle.cell_bits.proofs.Bits.{number_bits-appended}
use Rattle.cell_bits.proofs.writer.append_number.Goals as goal

pub loop-place-preserved : goal.loop-place-preserved
loop-place-preserved c =
    number_bits-appended c.args.bits.now.items c.loop-place.bits.items c.push.new.self.items c.loop-place.place (c.loop-place.place - 1) c.args.value c.args.width (omega arith) c.in_ok-push.ensures.items c.loop-place.invariant
