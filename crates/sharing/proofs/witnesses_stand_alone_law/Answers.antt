-- Answers to the goals of `witnesses_stand_alone_law`: the list of what is reached has as many witness
-- nodes as the root's term has witness leaves, where each witness node has one place in the root's tree.
use Rattle.sharing.proofs.Leaves.{witnesses_stand_alone}
use Rattle.sharing.proofs.witnesses_stand_alone_law.Goals as goal

pub returns : goal.returns
returns c = witnesses_stand_alone
