-- Answers to the goals of `evaluate`: what the function of a name gives for an argument: `()` for no
-- parameter, the value itself for one, a tuple for more.
use Rattle.std.proofs.Common.{ap, sym, ◌∙◌, subst}
use Rattle.hl_meaning.specs.Answer.{shaped}
use Rattle.hl_meaning.specs.Mean.{parts_of, meaning}
use Rattle.hl_eval.specs.Bindings.{bindings_of}
use Rattle.hl_eval.specs.Outcome.{HasFault}
use Rattle.hl_eval.proofs.Called.{at_place}
use Rattle.hl_eval.proofs.Done.{fault_as}
use Rattle.hl_eval.proofs.Exits.{answers_as, after_known, after_unknown, exits}
use Rattle.hl_eval.proofs.Meant.{meaning_none, meaning_at}
use Rattle.hl_eval.proofs.program.evaluate.Goals as goal

pub returns-in_err-place : goal.returns-in_err-place
returns-in_err-place c =
    rw (← c.as_slice.ensures)
    (exits _ _ _ c.from_residual.ensures.1
    (subst (λ e. HasFault (meaning c.args.functions.now c.args.name.now (bindings_of c.as_slice.result.now) c.args.argument.now) e) (sym c.in_err-place.ensures.0)
    (meaning_none c.args.functions.now c.args.name.now (bindings_of c.as_slice.result.now) c.args.argument.now c.in_err-place.ensures.1)))

pub returns-in_err-arguments : goal.returns-in_err-arguments
returns-in_err-arguments c =
    let place = c.in_ok-place.ensures in
    let is = at_place (bindings_of c.as_slice.result.now) c.args.functions.now c.in_ok-place.place c.index-functions-place.result place.function place.within place.there in
    rw (← c.as_slice.ensures)
    (exits _ _ _ c.from_residual-in_err-arguments.ensures.1
    (fault_as _ _ _ (meaning_at c.args.functions.now c.args.name.now (bindings_of c.as_slice.result.now) c.args.argument.now place.function place.means
    ∙ ap (λ params. shaped (parts_of params c.args.argument.now) place.function.run) (ap (λ g. g.params) is))
    (after_unknown _ _ _ c.in_err-arguments.ensures)))

pub returns : goal.returns
returns c =
    let place = c.in_ok-place.ensures in
    let is = at_place (bindings_of c.as_slice.result.now) c.args.functions.now c.in_ok-place.place c.index-functions-place.result place.function place.within place.there in
    rw (← c.as_slice.ensures)
    (answers_as _ _ _ (meaning_at c.args.functions.now c.args.name.now (bindings_of c.as_slice.result.now) c.args.argument.now place.function place.means
    ∙ ap (λ params. shaped (parts_of params c.args.argument.now) place.function.run) (ap (λ g. g.params) is))
    (after_known _ _ c.in_ok-arguments.arguments _ c.in_ok-arguments.ensures (c.run.ensures place.function place.there)))
