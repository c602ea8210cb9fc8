-- Invariants of `tree`: the tree of a type.
use Rattle.std.proofs.Common.{◌≡◌, [], ◌∷◌, Some}
use Rattle.type_table.specs.Kinds.{kind_at}
use Rattle.type_table.specs.Steps.{stack_of, after_steps, load}
use Rattle.type_table.proofs.table.TypeTable.tree.Given as goal

abbrev pub invariant-loop-step : goal.invariant-loop-step
invariant-loop-step l = after_steps l.self l.steps.items (Some (stack_of l.trees.items)) ≡ Some (kind_at l.self l.id ∷ [])

abbrev pub decreases-loop-step : goal.decreases-loop-step
decreases-loop-step l = load l.self l.steps.items
