-- Answers to the goals of `trees_are_typed_law`: the tree of a node of a placed and typed list has the
-- node's arrow.
use Rattle.simplicity.proofs.Trees.{trees_are_typed}
use Rattle.simplicity.proofs.trees_are_typed_law.Goals as goal

pub returns : goal.returns
returns c = trees_are_typed
