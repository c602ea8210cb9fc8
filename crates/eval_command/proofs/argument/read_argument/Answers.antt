-- Answers to the goals of `read_argument`: the argument of a type from its text, where one is given.
use Rattle.std.proofs.Common.{ap}
use Rattle.std.specs.Option.{option_copied}
use Rattle.eval_command.proofs.Steps.{no_value_stops, value_read}
use Rattle.eval_command.proofs.argument.read_argument.Goals as goal

pub returns-in-Ok-clause-read : goal.returns-in-Ok-clause-read
returns-in-Ok-clause-read c = value_read c.args.kind.now (option_copied c.args.input) c.in-Some.text.now c.in-Ok.value (ap option_copied c.in-Some.is) c.in-Ok.ensures.read

pub returns-in-Err-NotValue-clause-read : goal.returns-in-Err-NotValue-clause-read
returns-in-Err-NotValue-clause-read c =
    no_value_stops c.args.kind.now (option_copied c.args.input) c.in-Some.text.now c.refused_data-in-Err-NotValue.result (ap option_copied c.in-Some.is) (rw c.in-Err-NotValue.field-0-is at c.in-Err-NotValue.ensures.read) c.refused_data-in-Err-NotValue.ensures
