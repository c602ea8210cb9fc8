-- Answers to the goals of `values_are_read_law`: a value of a type is read exactly where its compact
-- code stands, and no bit more.
use Rattle.spelling.proofs.Values.{values_are_read}
use Rattle.spelling.proofs.values_are_read_law.Goals as goal

pub returns : goal.returns
returns c = values_are_read
