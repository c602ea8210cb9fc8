-- Answers to the goals of `read_first`: goes down to the first part of a type that is the unit type,
-- gives that part's value, and leaves what is to be done with it.
use Rattle.std.proofs.Common.{ap, sym, ◌∙◌}
use Rattle.spelling.specs.Reading.{Refused, EndOfBits}
use Rattle.cell_bits.specs.Places.{Place}
use Rattle.compact_codes.proofs.Frames.{at_end, to_left, to_right, to_first}
use Rattle.compact_codes.proofs.read.read_first.Goals as goal

pub returns-in_default-clause-ends : goal.returns-in_default-clause-ends
returns-in_default-clause-ends c =
    at_end c.args.types.now c.args.kind c.args.frames.now.items c.args.bits.now c.loop-left.part c.loop-left.frames.items c.loop-left.bits c.loop-left.invariant
    c.in-Sum.left c.in-Sum.right _ c.in-Sum.ensures.shape c.in_default.ensures.reads.0
    ∙ ap (λ at. Refused (EndOfBits at)) (sym (c.at.ensures.place ∙ ap (λ (p : Place). p.at) c.in_default.ensures.err))

pub loop-left-preserved-then-tag : goal.loop-left-preserved-then-tag
loop-left-preserved-then-tag c =
    to_right c.args.types.now c.args.kind c.args.frames.now.items c.args.bits.now c.loop-left.part c.loop-left.frames.items c.loop-left.bits c.loop-left.invariant
    c.in-Sum.left c.in-Sum.right c.push.new.self.items c.bit.new.self c.in-Sum.ensures.shape c.in-Ok.ensures.reads.1 c.in-Ok.tag c.if-tag.true c.in-Ok.ensures.reads.0
    c.in_ok-push-in-Sum.ensures.items

pub loop-left-preserved-else-tag : goal.loop-left-preserved-else-tag
loop-left-preserved-else-tag c =
    to_left c.args.types.now c.args.kind c.args.frames.now.items c.args.bits.now c.loop-left.part c.loop-left.frames.items c.loop-left.bits c.loop-left.invariant
    c.in-Sum.left c.in-Sum.right c.push-else-tag.new.self.items c.bit.new.self c.in-Sum.ensures.shape c.in-Ok.ensures.reads.1 c.in-Ok.tag c.if-tag.false c.in-Ok.ensures.reads.0
    c.in_ok-push-in-Sum-2.ensures.items

pub loop-left-preserved : goal.loop-left-preserved
loop-left-preserved c =
    to_first c.args.types.now c.args.kind c.args.frames.now.items c.args.bits.now c.loop-left.part c.loop-left.frames.items c.loop-left.bits c.loop-left.invariant
    c.in-Product.first c.in-Product.second c.push-in-Product.new.self.items c.in-Product.ensures.shape c.in_ok-push-in-Product.ensures.items
