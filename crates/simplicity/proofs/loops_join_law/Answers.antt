-- Answers to the goals of `loops_join_law`: folds and runs of turns go one after the other, and a loop
-- with a counter is a run.
use Rattle.simplicity.proofs.Loops.{loops_join}
use Rattle.simplicity.proofs.loops_join_law.Goals as goal

pub returns : goal.returns
returns c = loops_join
