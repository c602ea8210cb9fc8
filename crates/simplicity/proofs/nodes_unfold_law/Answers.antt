-- Answers to the goals of `nodes_unfold_law`: each shown node of a placed list unfolds to its tree.
use Rattle.simplicity.proofs.Trees.{nodes_unfold}
use Rattle.simplicity.proofs.nodes_unfold_law.Goals as goal

pub returns : goal.returns
returns c = nodes_unfold
