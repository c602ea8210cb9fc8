-- Answers to the goals of `check_shared`: whether no two nodes other than witnesses are equal in kind,
-- in what they carry, in their children and in their arrow.
use Rattle.std.proofs.Common.{subst, Option, arith}
use Rattle.term_core.specs.Nodes.{node_of}
use Rattle.infer_cells.specs.declared.typing.NodeArrow.{NodeArrow}
use Rattle.share_order.specs.Keys.{Key, keys_of}
use Rattle.share_order.proofs.Classing.{Grows}
use Rattle.share_order.proofs.Keyed.{inserted, keys_differ, self_kept, wide_kept}
use Rattle.share_order.proofs.Sharings.{own_next, first_equal, all_apart}
use Rattle.share_order.proofs.shared.check_shared.Goals as goal

pub loop-index-preserved : goal.loop-index-preserved
loop-index-preserved c =
    let keys = c.loop-index.keys.keys in
    let more = c.insert_full.new.self.keys in
    let key = c.new-key.result in
    let place = c.in_ok-place.place in
    let n = node_of c.get.result.now in
    let a = c.get-in-loop-index.result.now in
    let grown = subst (λ (k : Key (Option NodeArrow)). Grows (keys_of keys) k place (keys_of more)) c.new-key.ensures.key (inserted keys more key place c.in_ok-place.ensures.keys c.in_ok-place.ensures.stored c.in_ok-place.ensures.index) in
    let self = self_kept keys more key place c.in_ok-place.ensures.keys c.in_ok-place.ensures.stored c.loop-index.invariant.self in
    let wide = wide_kept keys more key c.in_ok-place.ensures.keys c.new-key.ensures.wide c.loop-index.invariant.wide in
    let far = c.if-place-index.false in
    record {
      own = own_next c.args.nodes.now c.args.typing.now c.loop-index.index place (keys_of keys) n a (keys_of more) c.loop-index.invariant.own c.get.ensures c.get-in-loop-index.ensures grown (omega (arith, far));
      differ = keys_differ more self wide c.insert_full.ensures.unique;
      self = self;
      wide = wide;
    }

pub returns-then-place-index-clause-refused : goal.returns-then-place-index-clause-refused
returns-then-place-index-clause-refused c =
    let keys = c.loop-index.keys.keys in
    let more = c.insert_full.new.self.keys in
    let key = c.new-key.result in
    let place = c.in_ok-place.place in
    let n = node_of c.get.result.now in
    let a = c.get-in-loop-index.result.now in
    let grown = subst (λ (k : Key (Option NodeArrow)). Grows (keys_of keys) k place (keys_of more)) c.new-key.ensures.key (inserted keys more key place c.in_ok-place.ensures.keys c.in_ok-place.ensures.stored c.in_ok-place.ensures.index) in
    first_equal c.args.types.now c.args.nodes.now c.args.typing.now c.requires.count c.tell_apart.ensures c.loop-index.index place (keys_of keys) n a (keys_of more)
    c.loop-index.invariant.own c.loop-index.invariant.differ c.get.ensures c.get-in-loop-index.ensures grown c.if-place-index.true

pub returns-clause-ok : goal.returns-clause-ok
returns-clause-ok c =
    let end = c.len-index-end.ensures in
    let test = c.loop-index-test.false in
    all_apart c.args.types.now c.args.nodes.now c.args.typing.now c.requires.count c.tell_apart.ensures c.loop-index.index (keys_of c.loop-index.keys.keys) (omega (arith, end, test))
    c.loop-index.invariant.own c.loop-index.invariant.differ
