-- Answers to the goals of `type_at_end`: the part of a type that steps lead to.
use Rattle.std.proofs.Common.{◌+◌, map, drop, get_or, subst}
use Rattle.layout_laws.specs.Scopes.{step_of}
use Rattle.scope_layout.specs.declared.path.Step.TheVariants as step
use Rattle.type_table.specs.Kinds.{kind_at}
use Rattle.term_recipes.specs.Shapes.{end_of}
use Rattle.term_recipes.proofs.Along.{Led, led_on, steps_next}
use Rattle.term_recipes.proofs.paths.type_at_end.Goals as goal

pub steps-preserved : goal.steps-preserved
steps-preserved c =
    let steps = c.args.steps.now in
    let i = c.steps.step-index in
    let end = end_of (kind_at c.args.types.now c.args.source) (map step_of steps) in
    led_on c.args.types.now c.steps.types c.next_type.new.types c.steps.kind c.in_ok-kind.kind (step_of (get_or steps i step.Take)) (drop (i + 1) (map step_of steps)) end
    (subst (λ l. Led c.args.types.now c.steps.types c.steps.kind l end) (steps_next steps i step.Take c.steps-test.true) c.steps.invariant) c.in_ok-kind.ensures.grown c.in_ok-kind.ensures.ok
