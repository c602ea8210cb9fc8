-- Invariants of `roots`: the root of each node's tree, in the order of the list; a hidden node's bytes
-- stand for its root.
use Rattle.root_hash.proofs.Rooted.{Front}
use Rattle.root_hash.proofs.whole.roots.Given as goal

abbrev pub invariant-loop-node : goal.invariant-loop-node
invariant-loop-node l = Front l.nodes l.node-index l.roots
