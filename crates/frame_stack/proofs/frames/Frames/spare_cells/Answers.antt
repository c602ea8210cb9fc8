-- Answers to the goals of `Frames::spare_cells`.
use Rattle.frame_stack.proofs.Moves.{spare_is}
use Rattle.frame_stack.proofs.frames.Frames.spare_cells.Goals as goal

pub returns : goal.returns
returns c = spare_is c.self.inside.cells c.self.inside.reads c.self.inside.writes c.self.inside.low c.self.inside.high c.args.self.now c.self.invariant c.self.view_is
