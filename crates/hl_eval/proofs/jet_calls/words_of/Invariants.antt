-- Invariants of `words_of`: the arguments of a jet as words, one for each type that is there.
use Rattle.hl_eval.proofs.Counted.{Words}
use Rattle.hl_eval.proofs.jet_calls.words_of.Given as goal

abbrev pub invariant-kinds : goal.invariant-kinds
invariant-kinds l = Words l.kinds l.kind-index l.arguments l.words.items
