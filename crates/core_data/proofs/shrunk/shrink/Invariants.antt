-- Invariants of `shrink`: the value with those parts cut that the type has as One.
use Rattle.std.proofs.Common.{◌≡◌, [], ◌∷◌, Some}
use Rattle.simplicity.specs.Types as core
use Rattle.core_data.specs.Data.{kind_of, value_of}
use Rattle.core_data.specs.Steps.{stack_of, after_steps, turns}
use Rattle.core_data.proofs.shrunk.shrink.Given as goal

abbrev pub invariant-loop-step : goal.invariant-loop-step
invariant-loop-step l = after_steps l.steps.items (Some (stack_of l.values.items)) ≡ Some (core.shrink (value_of l.fn.value) (kind_of l.fn.kind) ∷ [])

abbrev pub decreases-loop-step : goal.decreases-loop-step
decreases-loop-step l = turns l.steps.items
