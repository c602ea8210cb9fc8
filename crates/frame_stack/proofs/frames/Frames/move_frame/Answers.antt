-- Answers to the goals of `Frames::move_frame`.
use Rattle.std.proofs.Common.{arith}
use Rattle.frame_stack.proofs.Moves.{write_within, write_start, move_made}
use Rattle.frame_stack.proofs.frames.Frames.move_frame.Goals as goal

pub shift-requires-clause-from : goal.shift-requires-clause-from
shift-requires-clause-from c = let w = write_within c.self.inside.cells c.self.inside.reads c.self.inside.writes c.self.inside.low c.self.inside.high c.top-top.result c.self.invariant c.top-top.ensures in omega arith

pub shift-requires-clause-to : goal.shift-requires-clause-to
shift-requires-clause-to c =
    let w = write_within c.self.inside.cells c.self.inside.reads c.self.inside.writes c.self.inside.low c.self.inside.high c.top-top.result c.self.invariant c.top-top.ensures in
    omega (arith, c.self.invariant.apart, write_start c.self.inside.cells c.self.inside.reads c.self.inside.writes c.self.inside.low c.self.inside.high c.top-top.result c.self.invariant c.top-top.ensures)

pub overflow_add-self : goal.overflow_add-self
overflow_add-self c =
    let w = write_within c.self.inside.cells c.self.inside.reads c.self.inside.writes c.self.inside.low c.self.inside.high c.top-top.result c.self.invariant c.top-top.ensures in
    omega (arith, c.self.invariant.apart, write_start c.self.inside.cells c.self.inside.reads c.self.inside.writes c.self.inside.low c.self.inside.high c.top-top.result c.self.invariant c.top-top.ensures)

pub overflow_add-self-2 : goal.overflow_add-self-2
overflow_add-self-2 c = let w = write_within c.self.inside.cells c.self.inside.reads c.self.inside.writes c.self.inside.low c.self.inside.high c.top-top.result c.self.invariant c.top-top.ensures in omega arith

pub returns : goal.returns
returns c = (move_made c.self.inside.cells c.shift.new.self c.self.inside.reads c.self.inside.writes c.push.new.self c.pop.new.self c.self.inside.low c.self.inside.high c.top-top.result c.args.self.now c.self.invariant c.self.view_is c.top-top.ensures c.shift.ensures c.pop.ensures c.push.ensures).is
