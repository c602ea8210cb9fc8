-- Answers to the goals of `Frames::fwd`.
use Rattle.std.proofs.Common.{◌+◌}
use Rattle.frame_stack.proofs.Moves.{read_after, forth_frame, read_made}
use Rattle.frame_stack.proofs.frames.Frames.fwd.Goals as goal
use Rattle.simplicity.specs.Machine.{forth}

pub returns : goal.returns
returns c =
    let fits = read_after c.self.inside.cells c.self.inside.reads c.self.inside.writes c.self.inside.low c.self.inside.high c.top-top.result c.args.n c.args.self.now c.self.invariant c.self.view_is c.top-top.ensures c.requires in
    (read_made c.self.inside.cells c.self.inside.reads c.self.inside.writes c.set_top.new.self c.self.inside.low c.self.inside.high c.top-top.result c.with_cursor.result (c.top-top.result.cursor + c.args.n) (forth c.args.n) c.args.self.now c.self.invariant c.self.view_is c.top-top.ensures fits
    (forth_frame c.self.inside.cells c.top-top.result c.args.n fits) c.with_cursor.ensures c.set_top.ensures).is
