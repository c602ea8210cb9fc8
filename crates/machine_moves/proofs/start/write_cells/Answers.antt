-- Answers to the goals of `write_cells`.
use Rattle.std.proofs.Common.{refl}
use Rattle.machine_moves.proofs.Written.{cell_next}
use Rattle.machine_moves.proofs.start.write_cells.Goals as goal

pub loop-cell-preserved : goal.loop-cell-preserved
loop-cell-preserved c =
    cell_next c.args.cells.now c.loop-cell.cell-index _ _ c.args.frames.now c.loop-cell.frames c.write_cell.new.frames c.loop-cell.invariant c.loop-cell-test.true
    refl c.write_cell.ensures
