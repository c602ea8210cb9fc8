-- Answers to the goals of `write_program`: the bytes of a program: the number of its nodes, the nodes,
-- and fewer than eight zero bits.
use Rattle.bit_codec.proofs.Written.{children_placed, written_next}
use Rattle.bit_codec.proofs.write.write_program.Goals as goal

pub write_node-requires-clause-children : goal.write_node-requires-clause-children
write_node-requires-clause-children c = children_placed c.as_slice-node-items.result.now c.args.nodes.now c.loop-index.index c.node-item.result c.node-item.is c.as_slice-node-items.ensures.nodes c.as_slice-node-items.ensures.placed c.loop-index-test.true

pub loop-index-preserved : goal.loop-index-preserved
loop-index-preserved c =
    written_next c.as_slice-node-items.result.now c.args.nodes.now c.loop-index.index c.node-item.result _ c.loop-index.writer c.write_node.new.writer c.node-item.is c.as_slice-node-items.ensures.nodes c.loop-index-test.true c.loop-index.invariant c.in_ok-write_node.ensures
