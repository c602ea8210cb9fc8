-- Answers to the goals of `one_evaluation_law`: an evaluation has one status, one text for standard
-- output and one for standard error.
use Rattle.eval_command.proofs.One.{one_evaluation}
use Rattle.eval_command.proofs.laws.one_evaluation_law.Goals as goal

pub returns : goal.returns
returns c = one_evaluation c.one_program_law.ensures c.program_fronts_law.ensures c.one_value_law.ensures c.one_reading_law.ensures c.one_wanted_reading_law.ensures
