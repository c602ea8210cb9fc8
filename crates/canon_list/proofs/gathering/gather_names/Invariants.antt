-- Invariants of `gather_names` in `gathering`.
use Rattle.std.proofs.Common.{◌≡◌, take}
use Rattle.simplicity.specs.Canon.{names_at}
use Rattle.simplicity.specs.Pruning.{numbers_at}
use Rattle.canon_list.proofs.gathering.gather_names.Given as goal

abbrev pub invariant-loop-node : goal.invariant-loop-node
invariant-loop-node l = l.gathered.items ≡ names_at l.names (numbers_at l.nodes (take l.node-index l.order))
