-- Answers to the goals of `Cells::clear`.
use Rattle.std.proofs.Common.{refl, arith}
use Rattle.frame_stack.proofs.Changes.{lengths, clear_next, cleared}
use Rattle.frame_stack.proofs.cells.Cells.clear.Goals as goal

pub loop-done-preserved : goal.loop-done-preserved
loop-done-preserved c =
    clear_next c.self.inside.cells.items c.loop-done.self-inside.cells.items _ c.args.from c.args.count c.loop-done.done _ c.loop-done.invariant c.loop-done-test.true
    (omega (arith, lengths c.self.inside.cells.items c.args.self.now c.self.view_is)) refl

pub returns : goal.returns
returns c =
    cleared c.self.inside.cells.items c.loop-done.self-inside.cells.items c.args.self.now c.args.from c.args.count c.loop-done.done c.self.view_is c.loop-done.invariant (omega arith)
