-- Invariants of `solve` in `unify`.
use Rattle.std.proofs.Common.{◌≡◌, length}
use Rattle.infer_cells.specs.Cells.{SameSolutions, ArePlaced, AreWithin, load}
use Rattle.infer_cells.proofs.unify.solve.Given as goal

abbrev pub invariant-loop-equation : goal.invariant-loop-equation
invariant-loop-equation l = record {
  same : SameSolutions l.fn.cells.items l.fn.work.items l.cells.items l.work.items;
  placed : ArePlaced l.cells.items;
  within : AreWithin (length l.cells.items) l.work.items;
  count : length l.cells.items ≡ length l.fn.cells.items;
}

abbrev pub decreases-loop-equation : goal.decreases-loop-equation
decreases-loop-equation l = load l.cells.items l.work.items
