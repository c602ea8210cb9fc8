-- Answers to the goals of `item`: what is known after one more item.
use Rattle.std.proofs.Common.{◌∙◌, refl}
use Rattle.hl_check.specs.Knowns.{known_of}
use Rattle.hl_check.specs.declared.program.Walked.{Walked}
use Rattle.hl_check.proofs.Whole.{item_found, item_refused}
use Rattle.hl_check.proofs.program.item.Goals as goal

pub returns-in-Alias-clause-gives : goal.returns-in-Alias-clause-gives
returns-in-Alias-clause-gives c = rw c.in-Alias.is c.alias.ensures.gives

pub returns-in_err-f-in-Function-clause-gives : goal.returns-in_err-f-in-Function-clause-gives
returns-in_err-f-in-Function-clause-gives c =
    item_refused c.args.setting.entries.now c.args.setting.edition (known_of c.args.known) c.args.known.met c.args.item.now c.in-Function.name c.as_slice.result.now c.in-Function.kind c.in-Function.body c.in-Function.span (λ (next : Walked). (known_of next, next.met)) c.in_err-f-in-Function.field-0.0 c.from_residual.result
    (c.in-Function.is ∙ rw c.as_slice.ensures refl) c.in_err-f-in-Function.ensures.gives c.from_residual.ensures.1

pub returns-in_ok-with_function-in-Function-clause-gives : goal.returns-in_ok-with_function-in-Function-clause-gives
returns-in_ok-with_function-in-Function-clause-gives c =
    rw (c.in_ok-with_function-in-Function.ensures.known, c.in_ok-with_function-in-Function.ensures.met)
    (item_found c.args.setting.entries.now c.args.setting.edition (known_of c.args.known) c.args.known.met c.args.item.now c.in-Function.name c.as_slice.result.now c.in-Function.kind c.in-Function.body c.in-Function.span c.in_ok-f-in-Function.f c.in_ok-f-in-Function.met (c.in-Function.is ∙ rw c.as_slice.ensures refl) c.in_ok-f-in-Function.ensures.gives)
