-- Answers to the goals of `Frames::cell`.
use Rattle.std.proofs.Common.{arith}
use Rattle.frame_stack.proofs.Moves.{write_within, place_fits, cell_is}
use Rattle.frame_stack.proofs.frames.Frames.cell.Goals as goal

pub overflow_add-top : goal.overflow_add-top
overflow_add-top c =
    let w = write_within c.self.inside.cells c.self.inside.reads c.self.inside.writes c.self.inside.low c.self.inside.high c.top-top.result c.self.invariant c.top-top.ensures in
    omega (arith, place_fits c.self.inside.cells c.self.inside.reads c.self.inside.writes c.self.inside.low c.self.inside.high c.top-top.result c.args.place c.args.self.now c.self.invariant c.self.view_is c.top-top.ensures c.requires)

pub returns : goal.returns
returns c = cell_is c.self.inside.cells c.self.inside.reads c.self.inside.writes c.self.inside.low c.self.inside.high c.top-top.result c.args.place _ c.args.self.now c.self.invariant c.self.view_is c.top-top.ensures c.requires c.get.ensures
