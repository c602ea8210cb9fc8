-- Answers to the goals of `evaluate_source`: the line of the value that a function of a source gives.
use Rattle.checked_source.specs.Parts.{asking_of}
use Rattle.checked_source.specs.Steps.{IsCheckedSource}
use Rattle.checked_source.proofs.Leading.{grows_checked}
use Rattle.command_outcome.proofs.Leading.{led_line, stopped}
use Rattle.eval_command.specs.Evaluation.{FromWitnesses}
use Rattle.eval_command.specs.Parts.{given_of}
use Rattle.eval_command.proofs.evaluation.evaluate_source.Goals as goal

pub returns-in-Ok : goal.returns-in-Ok
returns-in-Ok c =
    led_line (IsCheckedSource (asking_of c.args.given.asked) c.args.source.now) (FromWitnesses (given_of c.args.given)) c.in-Ok.program c.from_witnesses.result
    (grows_checked (asking_of c.args.given.asked) c.args.source.now) c.in-Ok.ensures.checked c.from_witnesses.ensures

pub returns-in-Err : goal.returns-in-Err
returns-in-Err c =
    stopped (IsCheckedSource (asking_of c.args.given.asked) c.args.source.now) (FromWitnesses (given_of c.args.given)) c.in-Err.stop
    (grows_checked (asking_of c.args.given.asked) c.args.source.now) c.in-Err.ensures.checked
