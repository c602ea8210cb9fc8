-- Answers to the goals of `pruned_is_one_law`: a program and its witness values are pruned to one result
-- at most.
use Rattle.sharing.proofs.Pruned.{pruned_is_one}
use Rattle.sharing.proofs.pruned_is_one_law.Goals as goal

pub returns : goal.returns
returns c = pruned_is_one
