-- Answers to the goals of `gather`: the nodes that the root reaches, in their order, which is the
-- left-first post-order.
use Rattle.std.proofs.Common.{◌≡◌, ap, sym, subst, ◌∙◌, length, List, ℕ, Some, get_or, ◌<◌, arith}
use Rattle.std.specs.Prelude.{slice_get}
use Rattle.std.proofs.lemmas.List.{length-set}
use Rattle.std.proofs.lemmas.Option.{slice_get-get_or}
use Rattle.simplicity.specs.Order.{post_order}
use Rattle.simplicity.specs.Pruning.{renamed}
use Rattle.simplicity.specs.Nodes.{children, AreUnder}
use Rattle.term_core.specs.Nodes.{node_of}
use Rattle.share_order.specs.Keys.{place_at}
use Rattle.share_order.proofs.Gathers.{gather_follows, gather_step, all_gathered, node_within, children_within, place_next}
use Rattle.share_order.proofs.gathering.gather.Goals as goal

-- the index that the order has at a place
ordered_at : (order post : List ℕ) (k : ℕ) → order ≡ post → k < length order → slice_get post k ≡ Some (get_or order k 0)
ordered_at order post k e l = ap (λ (o : List ℕ). slice_get o k) (sym e) ∙ slice_get-get_or order k 0 l

pub get-requires : goal.get-requires
get-requires c =
    node_within c.args.nodes.now c.as_slice-placed.ensures.placed c.requires.full c.loop-index.index (get_or c.args.order.now c.loop-index.index 0)
    (ordered_at c.args.order.now (post_order c.args.nodes.now) c.loop-index.index c.requires.order c.loop-index-test.true)

pub renamed-requires : goal.renamed-requires
renamed-requires c =
    let n = node_of c.get.result.now in
    subst (λ (k : ℕ). AreUnder k (children n)) (sym (ap length c.as_slice.ensures.value ∙ c.loop-index.invariant.count))
    (children_within c.args.nodes.now c.as_slice-placed.ensures.placed c.requires.full (get_or c.args.order.now c.loop-index.index 0) n c.get.ensures)

pub push-requires : goal.push-requires
push-requires c =
    let n = node_of c.get.result.now in
    gather_follows c.args.nodes.now c.as_slice-placed.ensures.placed c.requires.full c.loop-index.index (get_or c.args.order.now c.loop-index.index 0) n (node_of c.renamed.result)
    c.loop-index.list c.loop-index.places.items
    (ordered_at c.args.order.now (post_order c.args.nodes.now) c.loop-index.index c.requires.order c.loop-index-test.true) c.get.ensures c.loop-index.invariant.placing
    (c.renamed.ensures ∙ ap (λ (ps : List ℕ). renamed (place_at ps) n) c.as_slice.ensures.value) c.loop-index.invariant.list

pub index_mut-requires : goal.index_mut-requires
index_mut-requires c =
    let inside = node_within c.args.nodes.now c.as_slice-placed.ensures.placed c.requires.full c.loop-index.index (get_or c.args.order.now c.loop-index.index 0)
    (ordered_at c.args.order.now (post_order c.args.nodes.now) c.loop-index.index c.requires.order c.loop-index-test.true) in
    omega (arith, inside, c.loop-index.invariant.count, c.loop-index.places.ok.0)

pub loop-index-preserved : goal.loop-index-preserved
loop-index-preserved c =
    let n = node_of c.get.result.now in
    let i = get_or c.args.order.now c.loop-index.index 0 in
    let i_is = ordered_at c.args.order.now (post_order c.args.nodes.now) c.loop-index.index c.requires.order c.loop-index-test.true in
    let placed = c.as_slice-placed.ensures.placed in
    record {
      list =
          c.in_ok-push.ensures.ok
          ∙ gather_step c.args.nodes.now placed c.requires.full c.loop-index.index i n (node_of c.renamed.result) c.loop-index.list c.loop-index.places.items i_is c.get.ensures
          c.loop-index.invariant.placing (c.renamed.ensures ∙ ap (λ (ps : List ℕ). renamed (place_at ps) n) c.as_slice.ensures.value) c.loop-index.invariant.list;
      count = length-set c.loop-index.places.items i c.loop-index.index ∙ c.loop-index.invariant.count;
      placing = place_next c.args.nodes.now placed c.requires.full c.loop-index.index i c.loop-index.places.items i_is c.loop-index.invariant.count c.loop-index.invariant.placing;
    }

pub returns : goal.returns
returns c =
    all_gathered c.args.nodes.now c.as_slice-placed.ensures.placed c.requires.full c.loop-index.list c.loop-index.index c.loop-index.invariant.list
    (omega (arith, c.loop-index-test.false, ap (λ (l : List ℕ). length l) c.requires.order))
