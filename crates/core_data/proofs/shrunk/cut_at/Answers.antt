-- Answers to the goals of `cut_at`: shrinks a value to a type, or leaves the steps that do.
use Rattle.core_data.specs.Steps.{stack_of}
use Rattle.core_data.proofs.Stacks.{stack_of-push, unit_made, left_planned, right_planned, pair_planned}
use Rattle.core_data.proofs.shrunk.cut_at.Goals as goal

pub returns-in_ok-push-in-One : goal.returns-in_ok-push-in-One
returns-in_ok-push-in-One c =
    rw (c.in-One.is, c.in_ok-push-in-One.ensures.items, stack_of-push) (unit_made c.args.steps.now.items (stack_of c.args.values.now.items) _)

pub returns-in_ok-plan_tag-in-Left : goal.returns-in_ok-plan_tag-in-Left
returns-in_ok-plan_tag-in-Left c =
    rw (c.in-Sum.is, c.in-Left.is, ← c.deref.ensures, ← c.deref-in-Left.ensures)
    (left_planned c.args.steps.now.items c.plan_tag.new.steps.items (stack_of c.args.values.now.items) _ _ c.in_ok-plan_tag-in-Left.ensures)

pub returns-in_ok-plan_tag-in-Right : goal.returns-in_ok-plan_tag-in-Right
returns-in_ok-plan_tag-in-Right c =
    rw (c.in-Sum.is, c.in-Right.is, ← c.deref-in-Right.ensures, ← c.deref-in-Right-2.ensures)
    (right_planned c.args.steps.now.items c.plan_tag-in-Right.new.steps.items (stack_of c.args.values.now.items) _ _ c.in_ok-plan_tag-in-Right.ensures)

pub returns-in_ok-plan_pair-in-Pair : goal.returns-in_ok-plan_pair-in-Pair
returns-in_ok-plan_pair-in-Pair c =
    rw (c.in-Product.is, c.in-Pair.is, ← c.deref-in-Pair.ensures, ← c.deref-in-Pair-2.ensures, ← c.deref-in-Pair-3.ensures, ← c.deref-in-Pair-4.ensures)
    (pair_planned c.args.steps.now.items c.plan_pair.new.steps.items (stack_of c.args.values.now.items) _ _ _ _ c.in_ok-plan_pair-in-Pair.ensures)
