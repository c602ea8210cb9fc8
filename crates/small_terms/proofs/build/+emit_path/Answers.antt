-- Answers to the goals of `emit_path`: adds the nodes that lead to the byte at a place among so many.
use Rattle.small_terms.proofs.Emitted.{emits_whole, emits_first, emits_rest}
use Rattle.small_terms.proofs.build.+emit_path.Goals as goal

pub returns-then-count-eq1 : goal.returns-then-count-eq1
returns-then-count-eq1 t c = emits_whole c.args.count c.args.place _ _ _ c.if-count-eq1.true c.in_ok-add.ensures

pub returns-then-place-half : goal.returns-then-place-half
returns-then-place-half t c =
    emits_first c.args.count c.args.place _ _ _ _ _ c.if-count-eq1.false c.if-place-half.true c.in_ok-child.ensures c.in_ok-add-2.ensures

pub returns : goal.returns
returns t c =
    emits_rest c.args.count c.args.place _ _ _ _ _ c.if-count-eq1.false c.if-place-half.false c.in_ok-child-2.ensures c.in_ok-add-3.ensures
