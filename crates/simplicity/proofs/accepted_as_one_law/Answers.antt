-- Answers to the goals of `accepted_as_one_law`: a program and a stream are accepted at an arrow as at
-- most one list, typing and witness.
use Rattle.simplicity.proofs.More.{accepted_as_one}
use Rattle.simplicity.proofs.accepted_as_one_law.Goals as goal

pub returns : goal.returns
returns c = accepted_as_one
