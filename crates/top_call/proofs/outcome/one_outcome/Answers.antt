-- Answers to the goals of `one_outcome`: the law that an outcome is one: its status, and its text for
-- standard error; of an evaluation its text for standard output too.
use Rattle.top_call.proofs.OneOutcome.{one_outcome, one_eval_outcome}
use Rattle.top_call.proofs.outcome.one_outcome.Goals as goal

pub returns : goal.returns
returns c = record {
  outcome = one_outcome c.one_program_law.ensures c.program_fronts_law.ensures c.one_evaluation_law.ensures;
  evaluation = one_eval_outcome c.one_evaluation_law.ensures;
}
