-- Answers to the goals of `tree`: the tree of a type.
use Rattle.std.proofs.Common.{[], ◌∷◌}
use Rattle.type_table.specs.Kinds.{kind_at}
use Rattle.type_table.specs.Steps.{stack_of}
use Rattle.type_table.proofs.Stacks.{can_take, after_one, less_after}
use Rattle.type_table.proofs.table.TypeTable.tree.Goals as goal

pub take_step-requires : goal.take_step-requires
take_step-requires c =
    can_take c.args.self.now c.pop.new.self.items c.in-Some.step (stack_of c.loop-step.trees.items) (kind_at c.args.self.now c.args.id ∷ [])
    (rw c.in-Some.ensures.items at c.loop-step.invariant)

pub loop-step-smaller : goal.loop-step-smaller
loop-step-smaller c =
    less_after c.args.self.now c.loop-step.steps.items c.pop.new.self.items c.take_step.new.steps.items c.in-Some.step c.in-Some.ensures.items c.in_ok-take_step.ensures.less

pub loop-step-preserved : goal.loop-step-preserved
loop-step-preserved c =
    after_one c.args.self.now c.loop-step.steps.items c.pop.new.self.items c.take_step.new.steps.items c.in-Some.step (stack_of c.loop-step.trees.items)
    (stack_of c.take_step.new.trees.items) (kind_at c.args.self.now c.args.id ∷ []) c.in-Some.ensures.items c.loop-step.invariant c.in_ok-take_step.ensures.after
