-- Invariants of `class_nodes`: the nodes of the classes.
use Rattle.std.proofs.Common.{◌≡◌, take}
use Rattle.share_order.specs.Keys.{keys_of, nodes_in}
use Rattle.share_order.proofs.merging.class_nodes.Given as goal

abbrev pub invariant-loop-index : goal.invariant-loop-index
invariant-loop-index l = l.nodes ≡ take l.index (nodes_in (keys_of l.keys.keys))
