-- Answers to the goals of `eval`: what a function of a program gives for an argument of its type: a
-- value of the function's result type.
use Rattle.std.proofs.Common.{◌∙◌}
use Rattle.hl_eval.specs.Bindings.{bindings_of}
use Rattle.hl_eval.proofs.Fitting.{never_stuck, of_result}
use Rattle.hl_eval.proofs.call.eval.Goals as goal

pub unreachable-requires : goal.unreachable-requires
unreachable-requires c =
    never_stuck c.args.program.now c.as_slice.result.now c.args.function.now c.args.argument.now (bindings_of c.args.witness.now) (c.as_slice.ensures ∙ c.functions.ensures) c.breaks_nothing.ensures c.requires.fits
    (rw c.in-Err-NoAnswer.field-0-is at c.in-Err-NoAnswer.ensures)

pub returns-in-Ok-clause-of_result : goal.returns-in-Ok-clause-of_result
returns-in-Ok-clause-of_result c =
    of_result c.args.program.now c.as_slice.result.now c.args.function.now c.args.argument.now (bindings_of c.args.witness.now) (c.as_slice.ensures ∙ c.functions.ensures) c.breaks_nothing.ensures c.requires.fits
    c.in-Ok.value c.in-Ok.ensures
