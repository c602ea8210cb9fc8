-- Answers to the goals of `refusals_are_named_law`: a natural and a node are refused, while they are
-- read, exactly as their fields say.
use Rattle.spelling.proofs.NamedNodes.{refusals_are_named}
use Rattle.spelling.proofs.refusals_are_named_law.Goals as goal

pub returns : goal.returns
returns c = refusals_are_named
