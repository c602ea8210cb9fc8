-- Answers to the goals of `class_nodes`: the nodes of the classes.
use Rattle.std.proofs.Common.{sym, ◌∙◌}
use Rattle.term_core.specs.Nodes.{node_of}
use Rattle.share_order.specs.Keys.{keys_of, nodes_in}
use Rattle.share_order.proofs.Gathers.{taken_next}
use Rattle.share_order.proofs.Emitted.{node_at, class_follows}
use Rattle.share_order.proofs.merging.class_nodes.Goals as goal

pub push-requires : goal.push-requires
push-requires c = class_follows c.args.keys.now.keys c.loop-index.nodes c.loop-index.index c.in-Some.key.now c.requires c.loop-index.invariant (sym c.in-Some.ensures.key)

pub loop-index-preserved : goal.loop-index-preserved
loop-index-preserved c =
    c.in_ok-push-in-Some.ensures.ok
    ∙ taken_next (nodes_in (keys_of c.args.keys.now.keys)) c.loop-index.nodes c.loop-index.index (node_of c.in-Some.key.now.node) c.loop-index.invariant
    (node_at c.args.keys.now.keys c.loop-index.index c.in-Some.key.now (sym c.in-Some.ensures.key))
