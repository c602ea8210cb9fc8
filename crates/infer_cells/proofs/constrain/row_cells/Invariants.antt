-- Invariants of `row_cells`: the cells of the rows of a table of types up to one, with room for so many
-- cells from the start.
use Rattle.std.proofs.Common.{◌≡◌, length}
use Rattle.infer_cells.specs.Constrained.{AreRowCells}
use Rattle.infer_cells.proofs.constrain.row_cells.Given as goal

abbrev pub invariant-loop-id : goal.invariant-loop-id
invariant-loop-id l = record {
  rows : AreRowCells l.types l.cells.items;
  count : length l.cells.items ≡ l.id;
}
