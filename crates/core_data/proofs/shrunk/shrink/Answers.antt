-- Answers to the goals of `shrink`: the value with those parts cut that the type has as One.
use Rattle.std.proofs.Common.{[], ◌∷◌, ap}
use Rattle.simplicity.specs.Types as core
use Rattle.core_data.specs.Data.{kind_of, value_of}
use Rattle.core_data.specs.Steps.{before, stack_of}
use Rattle.core_data.proofs.Stacks.{cut_above, can_take, after_one, less_after}
use Rattle.core_data.proofs.shrunk.shrink.Goals as goal

pub loop-step-init : goal.loop-step-init
loop-step-init c =
    rw (c.in_ok-push.ensures.items, c.new-steps.ensures.items, c.new-values.ensures.items)
    (ap (λ o. before o []) (cut_above (value_of c.args.value.now) (kind_of c.args.kind.now) c.requires))

pub take_step-requires : goal.take_step-requires
take_step-requires c =
    can_take c.pop.new.self.items c.in-Some.step (stack_of c.loop-step.values.items) (core.shrink (value_of c.args.value.now) (kind_of c.args.kind.now) ∷ [])
    (rw c.in-Some.ensures.items at c.loop-step.invariant)

pub loop-step-smaller : goal.loop-step-smaller
loop-step-smaller c =
    less_after c.loop-step.steps.items c.pop.new.self.items c.take_step.new.steps.items c.in-Some.step (stack_of c.loop-step.values.items)
    (stack_of c.take_step.new.values.items) c.in-Some.ensures.items c.in_ok-take_step.ensures

pub loop-step-preserved : goal.loop-step-preserved
loop-step-preserved c =
    after_one c.loop-step.steps.items c.pop.new.self.items c.take_step.new.steps.items c.in-Some.step (stack_of c.loop-step.values.items)
    (stack_of c.take_step.new.values.items) c.in-Some.ensures.items c.in_ok-take_step.ensures
    (core.shrink (value_of c.args.value.now) (kind_of c.args.kind.now) ∷ []) c.loop-step.invariant
