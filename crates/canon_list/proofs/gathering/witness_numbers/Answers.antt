-- Answers to the goals of `witness_numbers`: for each node how many witness nodes stand before it.
use Rattle.std.proofs.Common.{ap, sym, ◌∙◌, Some, arith}
use Rattle.term_core.specs.Nodes.{node_of}
use Rattle.canon_list.proofs.Counting.{number_first}
use Rattle.canon_list.proofs.Gathers.{number_within, numbers_more, count_witness, count_plain}
use Rattle.canon_list.proofs.gathering.witness_numbers.Goals.{then-is_witness, else-is_witness}
use Rattle.canon_list.proofs.gathering.witness_numbers.Goals as goal

pub loop-index-init : goal.loop-index-init
loop-index-init c = record { numbers = c.new-numbers.ensures.items; count = sym (number_first c.args.nodes.now) }

pub overflow_add-count : goal.overflow_add-count
overflow_add-count c = omega (arith, c.loop-index.invariant.count, number_within c.args.nodes.now c.loop-index.index, c.loop-index-test.true, c.loop-index.auto.index-end, c.len-index-end.ensures)

pub loop-index-preserved : goal.loop-index-preserved
loop-index-preserved c = record {
  numbers = c.in_ok-push.ensures.items ∙ numbers_more c.args.nodes.now c.loop-index.index c.loop-index.numbers.items c.loop-index.count c.loop-index.invariant.numbers c.loop-index.invariant.count;
  count = elim c.if-is_witness.branch [
    | then-is_witness w ↦
        w.count-is ∙ count_witness c.args.nodes.now c.loop-index.index c.loop-index.count c.loop-index.invariant.count (c.get.ensures ∙ ap Some (c.is_witness.ensures.yes w.if-is_witness.true))
    | else-is_witness w ↦
        w.count-is ∙ count_plain c.args.nodes.now c.loop-index.index c.loop-index.count (node_of c.get.result.now) c.loop-index.invariant.count c.get.ensures (c.is_witness.ensures.no w.if-is_witness.false)
  ];
}
