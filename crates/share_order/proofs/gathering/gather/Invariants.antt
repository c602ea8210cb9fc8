-- Invariants of `gather`: the nodes that the root reaches, in their order, which is the left-first
-- post-order.
use Rattle.std.proofs.Common.{◌≡◌, length, take}
use Rattle.simplicity.specs.Order.{post_order}
use Rattle.simplicity.specs.Pruning.{gathered}
use Rattle.share_order.proofs.Gathers.{Placing}
use Rattle.share_order.proofs.gathering.gather.Given as goal

abbrev pub invariant-loop-index : goal.invariant-loop-index
invariant-loop-index l = record {
  list : l.list ≡ take l.index (gathered l.nodes);
  count : length l.places.items ≡ length l.nodes;
  placing : Placing (post_order l.nodes) l.index l.places.items;
}
