-- Invariants of `bindings` in `patterns`.
use Rattle.std.proofs.Common.{length}
use Rattle.hl_meaning.specs.Scopes.{bound}
use Rattle.hl_eval.proofs.Onto.{Rest}
use Rattle.hl_eval.proofs.patterns.+bindings.Given as goal

abbrev pub invariant-bind_each-values : goal.invariant-bind_each-values
invariant-bind_each-values l = Rest bound l.patterns l.values.items l.fn.values l.scope l.fn.scope

abbrev pub decreases-bind_each-values : goal.decreases-bind_each-values
decreases-bind_each-values l = length l.values.items
