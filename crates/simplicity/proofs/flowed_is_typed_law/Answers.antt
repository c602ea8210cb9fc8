-- Answers to the goals of `flowed_is_typed_law`: a term with its arrows from a source is the term, and
-- is typed if it can start there.
use Rattle.simplicity.proofs.Flowed.{flowed_is_typed}
use Rattle.simplicity.proofs.flowed_is_typed_law.Goals as goal

pub returns : goal.returns
returns c = flowed_is_typed
