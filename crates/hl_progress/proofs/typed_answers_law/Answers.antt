-- Answers to the goals of `typed_answers_law`: each call of a function of a program that is typed by the
-- rules, where the call fits it, fails or gives a value of the function's result type.
use Rattle.hl_progress.proofs.Programs.{typed_answers}
use Rattle.hl_progress.proofs.typed_answers_law.Goals as goal

pub returns : goal.returns
returns c = typed_answers
