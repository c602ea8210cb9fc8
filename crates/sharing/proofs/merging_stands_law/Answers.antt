-- Answers to the goals of `merging_stands_law`: what the root of a list stands for, the root of the list
-- with equal nodes merged stands for too.
use Rattle.sharing.proofs.Standing.{merging_stands}
use Rattle.sharing.proofs.merging_stands_law.Goals as goal

pub returns : goal.returns
returns c = merging_stands
