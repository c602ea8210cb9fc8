-- Invariants of `listed`: the list of the nodes of entries.
use Rattle.std.proofs.Common.{◌≡◌, take}
use Rattle.small_terms.specs.Entries.{entry_nodes}
use Rattle.small_terms.proofs.build.listed.Given as goal

abbrev pub invariant-loop-entry : goal.invariant-loop-entry
invariant-loop-entry l = l.nodes ≡ entry_nodes (take l.entry-index l.entries)
