-- Invariants of `pairs`: an identity, so many nodes that each pair the one before with itself, and what
-- drops the result.
use Rattle.std.proofs.Common.{◌+◌}
use Rattle.infer_cells.proofs.ShownLists.{AllShown}
use Rattle.core_rows.proofs.typings.pairs.Given as goal

abbrev pub invariant-loop-at : goal.invariant-loop-at
invariant-loop-at l = AllShown l.nodes (l.at + 1)
