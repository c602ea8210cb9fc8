-- Answers to the goals of `build_source`: the line of a function of a source.
use Rattle.command_outcome.proofs.Stopping.{handed_on}
use Rattle.top_call.specs.Outcome.{IsBuildOutcome}
use Rattle.top_call.proofs.Small.{build_read, build_stops}
use Rattle.top_call.proofs.build.build_source.Goals as goal

pub returns : goal.returns
returns c = build_read c.args.function.now c.args.source.now c.in_ok-read_program.field-0 c.build_program.result c.in_ok-read_program.ensures (rw c.as_bytes.ensures.value at c.build_program.ensures)

pub returns-in_err-read_program : goal.returns-in_err-read_program
returns-in_err-read_program c =
    handed_on (IsBuildOutcome c.args.function.now c.args.source.now) c.from_residual.result c.in_err-read_program.field-0.0 (build_stops _ c.args.source.now c.in_err-read_program.field-0.0 c.in_err-read_program.ensures) c.from_residual.ensures.1
