-- Answers to the goals of `read_half`: reads a number of at most 128 bits.
use Rattle.std.proofs.Common.{◌≤◌, ◌<◌, ◌+◌, ◌*◌, arith}
use Rattle.cell_bits.proofs.Answered.{digit_more}
use Rattle.bit_codec.proofs.Fields.{half_room, bit_below}
use Rattle.bit_codec.proofs.node.read_half.Goals as goal

pub overflow_mul-half : goal.overflow_mul-half
overflow_mul-half c =
    let room = half_room c.args.width c.loop-left._left c.loop-left.half c.loop-left.invariant.2 (omega arith) (omega arith) c.requires in
    omega (arith, room)

pub overflow_add-half : goal.overflow_add-half
overflow_add-half c =
    let room = half_room c.args.width c.loop-left._left c.loop-left.half c.loop-left.invariant.2 (omega arith) (omega arith) c.requires in
    let small = bit_below c.in_ok-bit.field-0 in
    omega (arith, room, small, c.from.ensures)

pub loop-left-preserved : goal.loop-left-preserved
loop-left-preserved c =
    digit_more c.args.width c.loop-left._left c.loop-left.half c.from.result c.in_ok-bit.field-0 c.args.bits.now c.loop-left.bits c.bit.new.self c.from.ensures
    (omega arith) (omega arith) c.loop-left.invariant c.in_ok-bit.ensures.reads.0 c.in_ok-bit.ensures.reads.1
