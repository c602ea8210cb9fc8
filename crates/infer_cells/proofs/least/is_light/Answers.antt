-- Answers to the goals of `is_light`: whether no type of a typing has a tree of more than 4,194,304 nodes.
use Rattle.std.proofs.Common.{None, arith, length, ap, refl}
use Rattle.simplicity.specs.Limits.{most_weight}
use Rattle.infer_cells.proofs.Listed.{bound_at, light_next, light_at}
use Rattle.infer_cells.proofs.least.is_light.Goals as goal

pub is_entry_light-requires : goal.is_entry_light-requires
is_entry_light-requires c =
    rw c.as_slice-arrow-items.ensures (bound_at _ c.args.typing.now c.loop-arrow.arrow-index _ c.requires (omega (arith, c.loop-arrow-test.true, ap length c.as_slice-arrow-items.ensures)))

pub returns-then-not-is_entry_light-clause-heavy : goal.returns-then-not-is_entry_light-clause-heavy
returns-then-not-is_entry_light-clause-heavy c = λ e light.
    c.if-not-is_entry_light.ensures.heavy refl
    (rw c.as_slice-arrow-items.ensures
    (light_at most_weight c.args.types.now c.args.typing.now c.loop-arrow.arrow-index None
    (omega (arith, c.loop-arrow-test.true, ap length c.as_slice-arrow-items.ensures)) light))

pub loop-arrow-preserved : goal.loop-arrow-preserved
loop-arrow-preserved c =
    light_next most_weight c.args.types.now c.args.typing.now c.loop-arrow.arrow-index None (omega (arith, c.loop-arrow-test.true, ap length c.as_slice-arrow-items.ensures))
    c.loop-arrow.invariant (rw c.as_slice-arrow-items.ensures at (c.if-not-is_entry_light.ensures.light refl))
