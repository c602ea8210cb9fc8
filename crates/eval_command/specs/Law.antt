-- The law of evaluations.
use Rattle.std.specs.Prelude.{ℕ, List}
use Rattle.command_outcome.specs.Answer.{IsOneWhole}
use Rattle.eval_command.specs.Evaluation.{Given, IsEvaluation}

-- there is one status, one text on `out` and one text on `err`
abbrev pub EvaluationIsOne : Type 0
EvaluationIsOne = (given : Given) (text : List ℕ) → IsOneWhole (IsEvaluation given text)
