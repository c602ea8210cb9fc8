-- Answers to the goals of `classes` in `classes`.
use Rattle.std.proofs.Common.{◌≡◌, ap, sym, subst, ◌∙◌, length, length-append, Option, List, ℕ, arith}
use Rattle.std.specs.Prelude.{slice_get}
use Rattle.simplicity.specs.Nodes.{children, AreUnder}
use Rattle.term_core.specs.Nodes.{node_of}
use Rattle.simplicity.proofs.Unfold.{follows_at, children_under}
use Rattle.infer_cells.specs.declared.typing.NodeArrow.{NodeArrow}
use Rattle.share_order.specs.Keys.{Key, Classes, place_at, key_for, keys_of}
use Rattle.share_order.proofs.Classing.{class_step, Grows}
use Rattle.share_order.proofs.Placed.{placed_step}
use Rattle.share_order.proofs.Keyed.{inserted, keys_differ, self_kept, wide_kept}
use Rattle.share_order.proofs.classes.classes.Goals as goal

pub node_key-key-requires : goal.node_key-key-requires
node_key-key-requires c =
    let placed = c.as_slice-placed.ensures.placed in
    let under = children_under c.args.nodes.now c.loop-index.index (node_of c.get.result.now) (follows_at c.args.nodes.now c.loop-index.index (node_of c.get.result.now) placed c.get.ensures) in
    let long : c.loop-index.index ≡ length c.as_slice.result.now = sym (ap length c.as_slice.ensures.value ∙ c.loop-index.invariant.count) in
    subst (λ (n : ℕ). AreUnder n (children (node_of c.get.result.now))) long under

pub loop-index-preserved : goal.loop-index-preserved
loop-index-preserved c =
    let places = c.loop-index.places.items in
    let count = c.loop-index.invariant.count in
    let keys = c.loop-index.keys.keys in
    let more = c.insert_full.new.self.keys in
    let key = c.node_key-key.result in
    let class = c.in_ok-class.class in
    let grown = inserted keys more key class c.in_ok-class.ensures.keys c.in_ok-class.ensures.stored c.in_ok-class.ensures.index in
    let self = self_kept keys more key class c.in_ok-class.ensures.keys c.in_ok-class.ensures.stored c.loop-index.invariant.self in
    let wide = wide_kept keys more key c.in_ok-class.ensures.keys c.node_key-key.ensures.wide c.loop-index.invariant.wide in
    let n = node_of c.get.result.now in
    let a = c.get-in-loop-index.result.now in
    let key_is = c.node_key-key.ensures.key ∙ ap (λ (ps : List ℕ). key_for (place_at ps) c.loop-index.index n a) c.as_slice.ensures.value
    ∙ ap (λ (i : ℕ). key_for (place_at places) i n a) (sym count) in
    let grown_key = subst (λ (k : Key (Option NodeArrow)). Grows (keys_of keys) k class (keys_of more)) key_is grown in
    let n_is = ap (slice_get c.args.nodes.now) count ∙ c.get.ensures in
    let a_is = ap (slice_get c.args.typing.now) count ∙ c.get-in-loop-index.ensures in
    let placed = c.as_slice-placed.ensures.placed in
    record {
      classes =
          subst (Classes (Option NodeArrow) c.args.nodes.now c.args.typing.now (keys_of more)) (sym c.in_ok-push.ensures.items)
          (class_step c.args.nodes.now c.args.typing.now (keys_of keys) (keys_of more) places class n a placed c.loop-index.invariant.classes n_is a_is grown_key);
      count = ap length c.in_ok-push.ensures.items ∙ simp length-append (omega arith);
      placed = placed_step c.args.nodes.now c.args.typing.now placed c.requires (keys_of keys) places class n a (keys_of more) c.loop-index.invariant.classes n_is grown_key c.loop-index.invariant.placed;
      differ = keys_differ more self wide c.insert_full.ensures.unique;
      self = self;
      wide = wide;
    }
