-- Answers to the goals of `read_nodes`: reads so many nodes, each of which is tested before the next is read.
use Rattle.std.proofs.Common.{◌∙◌, ◌<◌, [], arith}
use Rattle.spelling.specs.Reading.{read_nodes}
use Rattle.cell_bits.specs.Places.{rest}
use Rattle.term_core.specs.Nodes.{node_of}
use Rattle.bit_codec.proofs.Fields.{err_codec}
use Rattle.bit_codec.proofs.Lists.{node_stops, place_stops, node_more, node_under, longer}
use Rattle.bit_codec.proofs.read.read_nodes.Goals as goal

pub returns-in_err-node-clause-reads : goal.returns-in_err-node-clause-reads
returns-in_err-node-clause-reads c =
    err_codec (λ nodes. nodes) (read_nodes c.args.count []) c.from_residual.result c.args.bits.now c.read_node.new.bits c.in_err-node.field-0.0 c.from_residual.ensures
    (node_stops c.args.count c.loop-index._index c.len.result c.loop-index.nodes c.args.bits.now c.loop-index.bits (omega (arith, c.loop-index-test.true)) c.len.ensures c.loop-index.invariant.0
    c.in_err-node.field-0.0 c.in_err-node.ensures)

pub test_place-requires : goal.test_place-requires
test_place-requires c =
    node_under c.args.count c.loop-index._index c.len.result c.loop-index.nodes c.args.bits.now c.loop-index.bits (omega (arith, c.loop-index-test.true)) c.len.ensures c.loop-index.invariant.0
    (node_of c.in_ok-node.node) c.read_node.new.bits.at (rest c.read_node.new.bits) c.in_ok-node.ensures.0

pub returns-in_err-test_place-clause-reads : goal.returns-in_err-test_place-clause-reads
returns-in_err-test_place-clause-reads c =
    err_codec (λ nodes. nodes) (read_nodes c.args.count []) c.from_residual-in_err-test_place.result c.args.bits.now c.read_node.new.bits c.in_err-test_place.field-0.0
    c.from_residual-in_err-test_place.ensures
    (place_stops c.args.count c.loop-index._index c.len.result c.loop-index.nodes c.args.bits.now c.loop-index.bits (omega (arith, c.loop-index-test.true)) c.len.ensures c.loop-index.invariant.0
    c.in_err-test_place.field-0.0 (node_of c.in_ok-node.node) c.read_node.new.bits.at (rest c.read_node.new.bits) c.in_ok-node.ensures.0
    (c.in_err-test_place.ensures c.read_node.new.bits.at (rest c.read_node.new.bits)))

pub loop-index-preserved : goal.loop-index-preserved
loop-index-preserved c = (
  node_more c.args.count c.loop-index._index c.len.result c.loop-index.nodes c.args.bits.now c.loop-index.bits (omega (arith, c.loop-index-test.true)) c.len.ensures c.loop-index.invariant.0
      (node_of c.in_ok-node.node) c.push.new.self c.read_node.new.bits c.in_ok-node.ensures.0 c.in_ok-test_place.ensures c.in_ok-push.ensures.ok,
  c.in_ok-node.ensures.1 ∙ c.loop-index.invariant.1,
  longer c.loop-index.nodes c.push.new.self (node_of c.in_ok-node.node) c.loop-index._index c.in_ok-push.ensures.ok c.loop-index.invariant.2,
)
