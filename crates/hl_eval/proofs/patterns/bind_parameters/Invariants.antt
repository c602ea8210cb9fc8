-- Invariants of `bind_parameters` in `patterns`.
use Rattle.std.proofs.Common.{length}
use Rattle.hl_meaning.specs.Mean.{named}
use Rattle.hl_eval.proofs.Onto.{Rest}
use Rattle.hl_eval.proofs.patterns.bind_parameters.Given as goal

abbrev pub invariant-arguments : goal.invariant-arguments
invariant-arguments l = Rest named l.params l.arguments.items l.fn.arguments l.scope l.fn.scope

abbrev pub decreases-arguments : goal.decreases-arguments
decreases-arguments l = length l.arguments.items
