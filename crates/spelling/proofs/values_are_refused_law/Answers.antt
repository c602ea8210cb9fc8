-- Answers to the goals of `values_are_refused_law`: a value is refused exactly where the bits end inside
-- one, at their number.
use Rattle.spelling.proofs.Values.{values_are_refused}
use Rattle.spelling.proofs.values_are_refused_law.Goals as goal

pub returns : goal.returns
returns c = values_are_refused
