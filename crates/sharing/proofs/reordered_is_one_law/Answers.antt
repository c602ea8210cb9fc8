-- Answers to the goals of `reordered_is_one_law`: a list is reordered in one way at most.
use Rattle.sharing.proofs.Reordered.{reordered_is_one}
use Rattle.sharing.proofs.reordered_is_one_law.Goals as goal

pub returns : goal.returns
returns c = reordered_is_one
