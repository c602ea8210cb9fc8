-- Answers to the goals of `least_is_one_law`: a list has at most one least typing with a root arrow.
use Rattle.simplicity.proofs.Below.{least_one}
use Rattle.simplicity.proofs.least_is_one_law.Goals as goal

pub returns : goal.returns
returns c = least_one
