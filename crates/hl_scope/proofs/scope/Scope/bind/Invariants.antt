-- Invariants of `bind`: puts variables before those in scope.
use Rattle.std.proofs.Common.{◌≡◌, ◌++◌, length, reverse}
use Rattle.hl_scope.proofs.scope.Scope.bind.Given as goal

abbrev pub invariant-loop-variable : goal.invariant-loop-variable
invariant-loop-variable l = l.bound.items ++ reverse l.self-inside.names.items ≡ l.initial.bound.items ++ reverse l.initial.self-inside.names.items

abbrev pub decreases-loop-variable : goal.decreases-loop-variable
decreases-loop-variable l = length l.bound.items
