-- Answers to the goals of `nodes_give_way_law`.
use Rattle.machine_ready.proofs.Going.{nodes_give_way}
use Rattle.machine_ready.proofs.nodes_give_way_law.Goals as goal

pub returns : goal.returns
returns c = nodes_give_way
