-- Answers to the goals of `words_of`: the arguments of a jet as words, one for each type that is there.
use Rattle.std.proofs.Common.{◌∙◌}
use Rattle.hl_eval.proofs.Counted.{words_more}
use Rattle.hl_eval.proofs.jet_calls.words_of.Goals as goal

pub returns-then-len-arguments-2 : goal.returns-then-len-arguments-2
returns-then-len-arguments-2 c =
    words_more c.args.kinds.now c.kinds.kind-index c.args.arguments.now c.kinds.words.items c.kinds-test.false c.kinds.invariant
    (λ e. c.if-len-arguments-2.true (c.len-2.ensures ∙ c.kinds.words.ok.0 ∙ e))
