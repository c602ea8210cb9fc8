-- Answers to the goals of `checked_answers_law`: each call of a function of a checked program that fits
-- it fails or gives a value of the function's result type.
use Rattle.hl_progress.proofs.Programs.{checked_answers}
use Rattle.hl_progress.proofs.checked_answers_law.Goals as goal

pub returns : goal.returns
returns c = checked_answers
