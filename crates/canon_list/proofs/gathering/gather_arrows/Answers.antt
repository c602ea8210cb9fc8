-- Answers to the goals of `gather_arrows` in `gathering`.
use Rattle.std.proofs.Common.{◌∙◌, length, get_or}
use Rattle.canon_list.proofs.Gathers.{item_under, arrows_more, item_at}
use Rattle.canon_list.proofs.gathering.gather_arrows.Goals as goal

pub get-requires : goal.get-requires
get-requires c = item_under (length c.args.arrows.now) c.args.order.now c.loop-node.node-index 0 c.requires c.loop-node-test.true

pub loop-node-preserved : goal.loop-node-preserved
loop-node-preserved c =
    c.in_ok-push.ensures.ok
    ∙ arrows_more c.args.arrows.now c.args.order.now c.loop-node.node-index (get_or c.args.order.now c.loop-node.node-index 0) c.get.result.now c.loop-node.gathered
    (item_at c.args.order.now c.loop-node.node-index c.loop-node-test.true) c.get.ensures c.loop-node.invariant
