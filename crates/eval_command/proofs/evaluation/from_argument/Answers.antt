-- Answers to the goals of `from_argument`: the steps from the argument on, of a program that has the
-- function, whose witnesses have values where it is `main`.
use Rattle.std.proofs.Common.{◌∙◌, ap}
use Rattle.hl_progress.specs.Calls.{argument_type}
use Rattle.eval_command.proofs.Fits.{fits_call, missing_is}
use Rattle.eval_command.proofs.Sound.{sound_argument}
use Rattle.eval_command.proofs.Steps.{found_is, argument_of_read, argument_of_stops}
use Rattle.eval_command.proofs.evaluation.from_argument.Goals as goal

pub unreachable-requires : goal.unreachable-requires
unreachable-requires c = missing_is _ _ _ _ c.in_default.is c.function_named.ensures (c.as_slice-functions.ensures ∙ c.functions.ensures) c.requires.there

pub read_argument-requires : goal.read_argument-requires
read_argument-requires c =
    rw (c.in_ok-kind.ensures, c.as_slice.ensures) (sound_argument c.args.program.now c.args.given.asked.function.now c.in-Some.function.now c.typed_programs_are_typed.ensures (found_is _ _ _ _ c.in-Some.function c.in-Some.is c.function_named.ensures (c.as_slice-functions.ensures ∙ c.functions.ensures)))

pub from_call-requires : goal.from_call-requires
from_call-requires c =
    fits_call c.args.program.now c.args.given.asked.function.now c.in-Some.function.now c.in_ok-kind.kind c.in-Ok.argument c.args.witness.now
    (found_is _ _ _ _ c.in-Some.function c.in-Some.is c.function_named.ensures (c.as_slice-functions.ensures ∙ c.functions.ensures))
    (c.in_ok-kind.ensures ∙ ap argument_type c.as_slice.ensures) c.in-Ok.ensures.of_kind c.requires.valued

pub returns-in-Ok : goal.returns-in-Ok
returns-in-Ok c =
    argument_of_read _ c.in-Some.function.now c.in_ok-kind.kind _ _ c.in-Ok.argument c.from_call.result
    (found_is _ _ _ _ c.in-Some.function c.in-Some.is c.function_named.ensures (c.as_slice-functions.ensures ∙ c.functions.ensures))
    (c.in_ok-kind.ensures ∙ ap argument_type c.as_slice.ensures) c.in-Ok.ensures.read c.from_call.ensures

pub returns : goal.returns
returns c =
    argument_of_stops _ c.in-Some.function.now c.in_ok-kind.kind _ _ c.in-Err.stop
    (found_is _ _ _ _ c.in-Some.function c.in-Some.is c.function_named.ensures (c.as_slice-functions.ensures ∙ c.functions.ensures))
    (c.in_ok-kind.ensures ∙ ap argument_type c.as_slice.ensures) c.in-Err.ensures.read
