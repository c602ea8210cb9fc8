-- Answers to the goals of `reordering_renumbers_law`: the tree of a list is that of the list reordered,
-- with its witnesses numbered anew.
use Rattle.sharing.proofs.Unfolded.{reordering_renumbers}
use Rattle.sharing.proofs.reordering_renumbers_law.Goals as goal

pub returns : goal.returns
returns c = reordering_renumbers
