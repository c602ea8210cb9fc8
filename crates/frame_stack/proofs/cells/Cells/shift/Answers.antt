-- Answers to the goals of `Cells::shift`.
use Rattle.std.proofs.Common.{refl, arith}
use Rattle.frame_stack.proofs.Changes.{lengths, shift_next, shifted}
use Rattle.frame_stack.proofs.cells.Cells.shift.Goals as goal

pub loop-done-preserved : goal.loop-done-preserved
loop-done-preserved c =
    shift_next c.self.inside.cells.items c.loop-done.self-inside.cells.items _ c.args.from c.args.to c.args.count c.loop-done.done c.index.result.now c.index.result.now
    c.loop-done.invariant c.loop-done-test.true
    (omega (arith, lengths c.self.inside.cells.items c.args.self.now c.self.view_is)) (omega (arith, lengths c.self.inside.cells.items c.args.self.now c.self.view_is))
    c.requires.apart c.index.ensures refl

pub returns : goal.returns
returns c =
    shifted c.self.inside.cells.items c.loop-done.self-inside.cells.items c.args.self.now c.args.from c.args.to c.args.count c.loop-done.done c.self.view_is c.loop-done.invariant
    (omega arith) c.requires.from
