-- Answers to the goals of `place_of` in `evaluator`.
use Rattle.hl_eval.proofs.evaluator.Evaluator.place_of.Goals as goal

pub returns : goal.returns
returns c = rw (← c.as_str.ensures) c.place_named.ensures
