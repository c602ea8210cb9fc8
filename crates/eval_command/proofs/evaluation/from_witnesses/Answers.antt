-- Answers to the goals of `from_witnesses`: the steps from the witnesses' entries on, of a program that
-- has the function.
use Rattle.std.proofs.Common.{refl}
use Rattle.std.specs.Option.{option_copied}
use Rattle.checked_source.specs.Steps.{IsWitnesses, object_of, wanted}
use Rattle.checked_source.proofs.Leading.{grows_witnesses}
use Rattle.command_outcome.proofs.Leading.{led_line, stopped}
use Rattle.eval_command.specs.Evaluation.{FromArgument}
use Rattle.eval_command.specs.Parts.{given_of}
use Rattle.eval_command.proofs.Fits.{witnesses_valued}
use Rattle.eval_command.proofs.evaluation.from_witnesses.Goals as goal

pub from_argument-requires-clause-valued : goal.from_argument-requires-clause-valued
from_argument-requires-clause-valued c =
    witnesses_valued c.args.program.now c.args.given.asked.function.now _ c.in-Ok.witness c.typed_programs_are_typed.ensures.once refl c.in-Ok.ensures.valued c.in-Ok.ensures.wanted

pub returns-in-Ok : goal.returns-in-Ok
returns-in-Ok c =
    led_line (IsWitnesses (object_of (option_copied c.args.given.witness)) (wanted c.args.given.asked.function.now c.args.program.now)) (FromArgument (given_of c.args.given) c.args.program.now) c.in-Ok.witness c.from_argument.result
    (grows_witnesses (object_of (option_copied c.args.given.witness)) (wanted c.args.given.asked.function.now c.args.program.now)) c.in-Ok.ensures.read c.from_argument.ensures

pub returns-in-Err : goal.returns-in-Err
returns-in-Err c =
    stopped (IsWitnesses (object_of (option_copied c.args.given.witness)) (wanted c.args.given.asked.function.now c.args.program.now)) (FromArgument (given_of c.args.given) c.args.program.now) c.in-Err.stop
    (grows_witnesses (object_of (option_copied c.args.given.witness)) (wanted c.args.given.asked.function.now c.args.program.now)) c.in-Err.ensures.read
