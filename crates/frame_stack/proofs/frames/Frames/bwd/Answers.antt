-- Answers to the goals of `Frames::bwd`.
use Rattle.std.proofs.Common.{arith}
use Rattle.std.proofs.Common.{◌-◌}
use Rattle.frame_stack.proofs.Moves.{read_within, read_before, back_frame, read_made}
use Rattle.frame_stack.proofs.frames.Frames.bwd.Goals as goal
use Rattle.simplicity.specs.Machine.{back}

pub returns : goal.returns
returns c =
    let w = read_within c.self.inside.cells c.self.inside.reads c.self.inside.writes c.self.inside.low c.self.inside.high c.top-top.result c.self.invariant c.top-top.ensures in
    let fits = read_before c.self.inside.cells c.self.inside.reads c.self.inside.writes c.self.inside.low c.self.inside.high c.top-top.result c.args.n c.args.self.now c.self.invariant c.self.view_is c.top-top.ensures c.requires in
    (read_made c.self.inside.cells c.self.inside.reads c.self.inside.writes c.set_top.new.self c.self.inside.low c.self.inside.high c.top-top.result c.with_cursor.result (c.top-top.result.cursor - c.args.n) (back c.args.n) c.args.self.now c.self.invariant c.self.view_is c.top-top.ensures (omega arith)
    (back_frame c.self.inside.cells c.top-top.result c.args.n w.within w.cursor fits) c.with_cursor.ensures c.set_top.ensures).is
