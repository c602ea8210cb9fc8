-- Invariants of `list_bounds`: the bounds of the nodes so far, and works of types.
use Rattle.std.proofs.Common.{◌≡◌}
use Rattle.infer_cells.specs.Typings.{typing_in}
use Rattle.cost_bound.specs.Numbers.{entries_of, stated_entries, AreWorks}
use Rattle.cost_bound.proofs.Listed.{first_bounds}
use Rattle.cost_bound.proofs.whole.list_bounds.Given as goal

abbrev pub invariant-loop-place : goal.invariant-loop-place
invariant-loop-place l = record {
  works : AreWorks l.types l.works.items;
  entries : entries_of l.entries.items ≡ stated_entries (first_bounds (typing_in l.types l.typing) l.place l.nodes);
}
