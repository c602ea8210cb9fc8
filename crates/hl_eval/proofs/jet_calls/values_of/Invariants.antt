-- Invariants of `values_of`: words as values, one for each type that is there.
use Rattle.hl_eval.proofs.Results.{Values}
use Rattle.hl_eval.proofs.jet_calls.values_of.Given as goal

abbrev pub invariant-kinds : goal.invariant-kinds
invariant-kinds l = Values l.kinds l.kind-index l.words l.values
