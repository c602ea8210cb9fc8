-- Answers to the goals of `from_call`: the value of the function as a line, or that it fails, for an
-- argument of its type.
use Rattle.std.proofs.Common.{◌∙◌}
use Rattle.eval_command.proofs.Steps.{value_given, failure_stops}
use Rattle.eval_command.proofs.evaluation.from_call.Goals as goal

pub returns-in_ok-value_text-in-Ok : goal.returns-in_ok-value_text-in-Ok
returns-in_ok-value_text-in-Ok c =
    value_given _ c.in-Ok.value c.as_str.result.now _ c.in-Ok.ensures.answer (c.as_str.ensures.value ∙ c.in_ok-text-in-Ok.ensures) c.in_ok-value_text-in-Ok.ensures

pub returns-in-Err-Failed : goal.returns-in-Err-Failed
returns-in-Err-Failed c = failure_stops _ c.failed_program.result (rw c.in-Err-Failed.field-0-is at c.in-Err-Failed.ensures.answer) c.failed_program.ensures
