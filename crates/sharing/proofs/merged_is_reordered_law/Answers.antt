-- Answers to the goals of `merged_is_reordered_law`: a gathered list, merged under its least typing so
-- that the new places come in order, is the list reordered.
use Rattle.sharing.proofs.Reordered.{merged_is_reordered}
use Rattle.sharing.proofs.merged_is_reordered_law.Goals as goal

pub returns : goal.returns
returns c = merged_is_reordered
