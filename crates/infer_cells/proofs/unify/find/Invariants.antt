-- Invariants of `find`: the cell at the end of the links from a cell.
use Rattle.std.proofs.Common.{◌≡◌, ◌<◌, length}
use Rattle.infer_cells.specs.Cells.{Assignment, FitFrom}
use Rattle.infer_cells.proofs.unify.find.Given as goal

abbrev pub invariant-links : goal.invariant-links
invariant-links l = (l.at < length l.cells) × ((f : Assignment) → FitFrom f 0 l.cells → f l.at ≡ f l.start)

abbrev pub decreases-links : goal.decreases-links
decreases-links l = l.at
