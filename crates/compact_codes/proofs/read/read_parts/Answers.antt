-- Answers to the goals of `read_parts`: reads a value of a type; after an error some of its bits may be read.
use Rattle.std.proofs.Common.{refl, ap}
use Rattle.core_data.specs.Data.{value_of}
use Rattle.compact_codes.specs.Frames.{after, read_at}
use Rattle.compact_codes.specs.declared.read.Frame.TheVariants as frame
use Rattle.compact_codes.proofs.Codes.{err_stops, stops_same}
use Rattle.compact_codes.proofs.Frames.{up_left, up_right, up_pair, up_less, second_in, mid_in, second_next, again, again_less}
use Rattle.compact_codes.proofs.read.read_parts.Goals as goal

pub read_first-requires-in-Second-clause-there : goal.read_first-requires-in-Second-clause-there
read_first-requires-in-Second-clause-there c =
    second_in c.args.types.now c.args.kind c.args.bits.now c.loop-frame.frames.items c.pop.new.self.items c.in-Some.frame (value_of c.loop-frame.value) c.loop-frame.bits c.in-Some.ensures.items c.loop-frame.invariant
    c.in-Second.kind c.in-Second.is

pub read_first-requires-in-Second-clause-within : goal.read_first-requires-in-Second-clause-within
read_first-requires-in-Second-clause-within c =
    mid_in c.args.types.now c.args.kind c.args.bits.now c.loop-frame.frames.items c.pop.new.self.items c.in-Some.frame (value_of c.loop-frame.value) c.loop-frame.bits c.in-Some.ensures.items c.loop-frame.invariant
    c.in-Second.kind c.loop-frame.value c.in-Second.is refl c.push.new.self.items c.in_ok-push-in-Second.ensures.items

pub returns-in_err-value-in-Second-clause-ends : goal.returns-in_err-value-in-Second-clause-ends
returns-in_err-value-in-Second-clause-ends c =
    err_stops c.from_residual-in_err-value-in-Second.result c.in_err-value-in-Second.field-0.0 (read_at c.args.types.now c.args.kind c.args.bits.now)
    c.from_residual-in_err-value-in-Second.ensures
    (stops_same c.in_err-value-in-Second.field-0.0 (after c.args.types.now c.push.new.self.items (read_at c.args.types.now c.in-Second.kind c.loop-frame.bits)) (read_at c.args.types.now c.args.kind c.args.bits.now)
    (second_next c.args.types.now c.args.kind c.args.bits.now c.loop-frame.frames.items c.pop.new.self.items c.in-Some.frame (value_of c.loop-frame.value) c.loop-frame.bits c.in-Some.ensures.items c.loop-frame.invariant
    c.in-Second.kind c.loop-frame.value c.in-Second.is refl c.push.new.self.items c.in_ok-push-in-Second.ensures.items)
    c.in_err-value-in-Second.ensures.ends)

pub loop-frame-smaller-in_ok-new-in-Left : goal.loop-frame-smaller-in_ok-new-in-Left
loop-frame-smaller-in_ok-new-in-Left c =
    up_less c.args.types.now c.args.kind c.args.bits.now c.loop-frame.frames.items c.pop.new.self.items c.in-Some.frame (value_of c.loop-frame.value) c.loop-frame.bits c.in-Some.ensures.items c.loop-frame.invariant
    frame.Left c.in-Left.is refl

pub loop-frame-preserved-in_ok-new-in-Left : goal.loop-frame-preserved-in_ok-new-in-Left
loop-frame-preserved-in_ok-new-in-Left c =
    up_left c.args.types.now c.args.kind c.args.bits.now c.loop-frame.frames.items c.pop.new.self.items c.in-Some.frame (value_of c.loop-frame.value) c.loop-frame.bits c.in-Some.ensures.items c.loop-frame.invariant
    (value_of c.in_ok-new-in-Left.field-0.value) c.in-Left.is (ap value_of c.in_ok-new-in-Left.ensures.ok)

pub loop-frame-smaller-in_ok-new-in-Right : goal.loop-frame-smaller-in_ok-new-in-Right
loop-frame-smaller-in_ok-new-in-Right c =
    up_less c.args.types.now c.args.kind c.args.bits.now c.loop-frame.frames.items c.pop.new.self.items c.in-Some.frame (value_of c.loop-frame.value) c.loop-frame.bits c.in-Some.ensures.items c.loop-frame.invariant
    frame.Right c.in-Right.is refl

pub loop-frame-preserved-in_ok-new-in-Right : goal.loop-frame-preserved-in_ok-new-in-Right
loop-frame-preserved-in_ok-new-in-Right c =
    up_right c.args.types.now c.args.kind c.args.bits.now c.loop-frame.frames.items c.pop.new.self.items c.in-Some.frame (value_of c.loop-frame.value) c.loop-frame.bits c.in-Some.ensures.items c.loop-frame.invariant
    (value_of c.in_ok-new-in-Right.field-0.value) c.in-Right.is (ap value_of c.in_ok-new-in-Right.ensures.ok)

pub loop-frame-smaller-in_ok-new-in-First-2 : goal.loop-frame-smaller-in_ok-new-in-First-2
loop-frame-smaller-in_ok-new-in-First-2 c =
    up_less c.args.types.now c.args.kind c.args.bits.now c.loop-frame.frames.items c.pop.new.self.items c.in-Some.frame (value_of c.loop-frame.value) c.loop-frame.bits c.in-Some.ensures.items c.loop-frame.invariant
    (frame.First c.in-First.first) c.in-First.is refl

pub loop-frame-preserved-in_ok-new-in-First-2 : goal.loop-frame-preserved-in_ok-new-in-First-2
loop-frame-preserved-in_ok-new-in-First-2 c =
    up_pair c.args.types.now c.args.kind c.args.bits.now c.loop-frame.frames.items c.pop.new.self.items c.in-Some.frame (value_of c.loop-frame.value) c.loop-frame.bits c.in-Some.ensures.items c.loop-frame.invariant
    c.in-First.first (value_of c.in_ok-new-in-First.field-0.value) (value_of c.in_ok-new-in-First-2.field-0.value) c.in-First.is
    (ap value_of c.in_ok-new-in-First.ensures.ok) (ap value_of c.in_ok-new-in-First-2.ensures.ok)

pub loop-frame-smaller : goal.loop-frame-smaller
loop-frame-smaller c =
    again_less c.args.types.now c.args.kind c.args.bits.now c.loop-frame.frames.items c.pop.new.self.items c.in-Some.frame (value_of c.loop-frame.value) c.loop-frame.bits c.in-Some.ensures.items c.loop-frame.invariant
    c.in-Second.kind c.loop-frame.value c.in-Second.is refl c.push.new.self.items c.in_ok-push-in-Second.ensures.items
    c.read_first-in-Second.new.frames.items (value_of c.in_ok-value-in-Second.value) c.read_first-in-Second.new.bits c.in_ok-value-in-Second.ensures.value

pub loop-frame-preserved : goal.loop-frame-preserved
loop-frame-preserved c =
    again c.args.types.now c.args.kind c.args.bits.now c.loop-frame.frames.items c.pop.new.self.items c.in-Some.frame (value_of c.loop-frame.value) c.loop-frame.bits c.in-Some.ensures.items c.loop-frame.invariant
    c.in-Second.kind c.loop-frame.value c.in-Second.is refl c.push.new.self.items c.in_ok-push-in-Second.ensures.items
    c.read_first-in-Second.new.frames.items (value_of c.in_ok-value-in-Second.value) c.read_first-in-Second.new.bits c.in_ok-value-in-Second.ensures.value c.in_ok-value-in-Second.ensures.on
