-- Answers to the goals of `counter_width_of` in `evaluator`.
use Rattle.std.proofs.Common.{ap, sym, subst}
use Rattle.hl_meaning.specs.Answer.{known}
use Rattle.hl_meaning.specs.Mean.{counter_width}
use Rattle.hl_eval.specs.Here.{witness_in}
use Rattle.hl_eval.specs.Outcome.{AnswersMeaning}
use Rattle.hl_eval.proofs.Called.{at_place}
use Rattle.hl_eval.proofs.evaluator.Evaluator.counter_width_of.Goals as goal

pub returns-clause-width : goal.returns-clause-width
returns-clause-width c = λ f e.
    let is = at_place (witness_in c.args.self.now) c.args.self.now.functions.now c.args.place c.index-self-place.result f c.requires e in
    subst (λ params. AnswersMeaning (known (counter_width params)) c.counter_width.result) (ap (λ g. g.params) (sym is)) c.counter_width.ensures.width
