-- Answers to the goals of `packed`: the bytes that whole bytes of bits are.
use Rattle.std.proofs.Common.{sym, take-append-drop}
use Rattle.cell_bits.proofs.Bits.{packed-next}
use Rattle.cell_bits.proofs.writer.packed.Goals as goal

pub loop-rest-preserved : goal.loop-rest-preserved
loop-rest-preserved c =
    packed-next c.args.bits.now c.loop-rest.rest.now c.split_at.result.0.now c.split_at.result.1.now c.loop-rest.bytes.items c.push.new.self.items c.byte_of.result c.in_ok-push.ensures.items c.byte_of.ensures (sym (rw (c.split_at.ensures.front, c.split_at.ensures.back) (take-append-drop 8 c.loop-rest.rest.now))) c.split_at.ensures.front_len c.loop-rest.invariant
