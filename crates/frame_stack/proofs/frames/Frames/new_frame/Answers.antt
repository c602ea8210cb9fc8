-- Answers to the goals of `Frames::new_frame`.
use Rattle.std.proofs.Common.{arith}
use Rattle.frame_stack.proofs.Moves.{new_fits, high_within, new_made}
use Rattle.frame_stack.proofs.frames.Frames.new_frame.Goals as goal

pub overflow_sub-start : goal.overflow_sub-start
overflow_sub-start c = omega (arith, new_fits c.self.inside.cells c.self.inside.reads c.self.inside.writes c.self.inside.low c.self.inside.high c.args.n c.args.self.now c.self.invariant c.self.view_is c.requires.room)

pub clear-requires : goal.clear-requires
clear-requires c = omega (arith, new_fits c.self.inside.cells c.self.inside.reads c.self.inside.writes c.self.inside.low c.self.inside.high c.args.n c.args.self.now c.self.invariant c.self.view_is c.requires.room, high_within c.self.inside.cells c.self.inside.reads c.self.inside.writes c.self.inside.low c.self.inside.high c.self.invariant)

pub invariant_of-self : goal.invariant_of-self
invariant_of-self c = (new_made c.self.inside.cells c.clear.new.self c.self.inside.reads c.self.inside.writes c.push.new.self c.self.inside.low c.self.inside.high c.args.n c.args.self.now c.self.invariant c.self.view_is c.requires.room c.requires.place c.clear.ensures c.push.ensures).laid

pub returns : goal.returns
returns c = (new_made c.self.inside.cells c.clear.new.self c.self.inside.reads c.self.inside.writes c.push.new.self c.self.inside.low c.self.inside.high c.args.n c.args.self.now c.self.invariant c.self.view_is c.requires.room c.requires.place c.clear.ensures c.push.ensures).is
