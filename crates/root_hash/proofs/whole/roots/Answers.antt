-- Answers to the goals of `roots`: the root of each node's tree, in the order of the list; a hidden
-- node's bytes stand for its root.
use Rattle.root_hash.proofs.Rooted.{children_before, front_next, front_all}
use Rattle.root_hash.proofs.whole.roots.Goals as goal

pub node_root-root-requires : goal.node_root-root-requires
node_root-root-requires c =
    rw c.as_slice.ensures
    (children_before c.as_slice-node-items.result.now c.args.nodes.now c.loop-node.node-index c.node-item.result c.node-item.is c.as_slice-node-items.ensures.nodes
    c.as_slice-node-items.ensures.placed c.loop-node-test.true c.loop-node.roots c.loop-node.invariant)

pub loop-node-preserved : goal.loop-node-preserved
loop-node-preserved c =
    front_next c.as_slice-node-items.result.now c.args.nodes.now c.loop-node.node-index c.node-item.result c.node-item.is c.as_slice-node-items.ensures.nodes
    c.as_slice-node-items.ensures.placed c.loop-node-test.true c.loop-node.roots c.push.new.self c.node_root-root.result c.loop-node.invariant
    (rw c.as_slice.ensures at c.node_root-root.ensures) c.in_ok-push.ensures.ok

pub returns : goal.returns
returns c =
    front_all c.as_slice-node-items.result.now c.args.nodes.now c.loop-node.node-index c.loop-node.roots c.as_slice-node-items.ensures.nodes c.loop-node-test.false c.loop-node.invariant
