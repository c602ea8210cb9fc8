-- Invariants of `chain`: each node so far is shown.
use Rattle.std.proofs.Common.{◌+◌, ◌*◌}
use Rattle.infer_cells.proofs.ShownLists.{AllShown}
use Rattle.machine_rows.proofs.bounds.chain.Given as goal

abbrev pub invariant-loop-level : goal.invariant-loop-level
invariant-loop-level l = AllShown l.nodes (2 * l.level + 1)
