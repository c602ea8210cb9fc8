-- Answers to the goals of `Frames::read`.
use Rattle.std.proofs.Common.{arith}
use Rattle.frame_stack.proofs.Moves.{read_within, ahead, one_part}
use Rattle.frame_stack.proofs.frames.Frames.read.Goals as goal
use Rattle.std.proofs.Common.{sym, ◌∙◌}

pub overflow_add-top : goal.overflow_add-top
overflow_add-top c = let w = read_within c.self.inside.cells c.self.inside.reads c.self.inside.writes c.self.inside.low c.self.inside.high c.top-top.result c.self.invariant c.top-top.ensures in omega arith

pub returns : goal.returns
returns c = sym (ahead c.self.inside.cells c.self.inside.reads c.self.inside.writes c.self.inside.low c.self.inside.high c.top-top.result 1 c.args.self.now c.self.invariant c.self.view_is c.top-top.ensures c.requires) ∙ one_part _ c.self.inside.cells _ c.get.ensures
