-- Answers to the goals of `nodes_stop_law`: nodes are refused only after fewer nodes that stand in the
-- bits, fit and are placed.
use Rattle.spelling.proofs.Stopped.{nodes_stop}
use Rattle.spelling.proofs.nodes_stop_law.Goals as goal

pub returns : goal.returns
returns c = nodes_stop
