-- Answers to the goals of `gather_names` in `gathering`.
use Rattle.std.proofs.Common.{ap, ◌∙◌, Some, length, get_or, arith}
use Rattle.term_core.specs.Nodes.{node_of}
use Rattle.canon_list.proofs.Counting.{number_below}
use Rattle.canon_list.proofs.Gathers.{item_under, item_at, number_at, numbers_many, names_witness, names_plain}
use Rattle.canon_list.proofs.gathering.gather_names.Goals.{then-is_witness+in_ok-push, else-is_witness}
use Rattle.canon_list.proofs.gathering.gather_names.Goals as goal

pub get-requires : goal.get-requires
get-requires c = item_under (length c.args.nodes.now) c.args.order.now c.loop-node.node-index 0 c.requires.within c.loop-node-test.true

pub index-requires : goal.index-requires
index-requires c =
    let inside = item_under (length c.args.nodes.now) c.args.order.now c.loop-node.node-index 0 c.requires.within c.loop-node-test.true in
    let many = numbers_many c.args.nodes.now c.in_ok-numbers.numbers.items c.in_ok-numbers.ensures in
    omega (arith, inside, many, c.in_ok-numbers.numbers.ok.0)

pub name-requires : goal.name-requires
name-requires c =
    let i = get_or c.args.order.now c.loop-node.node-index 0 in
    let inside = item_under (length c.args.nodes.now) c.args.order.now c.loop-node.node-index 0 c.requires.within c.loop-node-test.true in
    let number = number_at c.args.nodes.now c.in_ok-numbers.numbers.items i c.index.result.now c.in_ok-numbers.ensures inside in
    let below = number_below c.args.nodes.now i (c.get.ensures ∙ ap Some (c.is_witness.ensures.yes c.if-is_witness.true)) in
    omega (arith, c.index.ensures, number, below, c.requires.named)

pub loop-node-preserved : goal.loop-node-preserved
loop-node-preserved c =
    let i = get_or c.args.order.now c.loop-node.node-index 0 in
    let inside = item_under (length c.args.nodes.now) c.args.order.now c.loop-node.node-index 0 c.requires.within c.loop-node-test.true in
    let there = item_at c.args.order.now c.loop-node.node-index c.loop-node-test.true in
    elim c.if-is_witness.branch [
      | then-is_witness+in_ok-push w ↦
          let witness = c.get.ensures ∙ ap Some (c.is_witness.ensures.yes w.if-is_witness.true) in
          let below = number_below c.args.nodes.now i witness in
          let number = w.index.ensures ∙ number_at c.args.nodes.now c.in_ok-numbers.numbers.items i w.index.result.now c.in_ok-numbers.ensures inside in
          ap (λ v. v.items) w.gathered-is
          ∙ w.in_ok-push.ensures.items
          ∙ names_witness c.args.nodes.now c.args.names.now c.args.order.now c.loop-node.node-index i c.loop-node.gathered.items w.name.result there witness c.loop-node.invariant
          (w.name.ensures ∙ ap (λ k. get_or c.args.names.now k 0) number) (omega (arith, below, c.requires.named))
      | else-is_witness w ↦
          ap (λ v. v.items) w.gathered-is
          ∙ names_plain c.args.nodes.now c.args.names.now c.args.order.now c.loop-node.node-index i c.loop-node.gathered.items (node_of c.get.result.now) there c.get.ensures (c.is_witness.ensures.no w.if-is_witness.false) c.loop-node.invariant
    ]
