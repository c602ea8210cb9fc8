-- Answers to the goals of `Frames::skip`.
use Rattle.frame_stack.proofs.Moves.{skip_made}
use Rattle.frame_stack.proofs.frames.Frames.skip.Goals as goal

pub returns : goal.returns
returns c = (skip_made c.self.inside.cells c.self.inside.reads c.self.inside.writes c.set_top.new.self c.self.inside.low c.self.inside.high c.top-top.result c.with_cursor.result c.args.n c.args.self.now c.self.invariant c.self.view_is c.top-top.ensures c.requires c.with_cursor.ensures c.set_top.ensures).is
