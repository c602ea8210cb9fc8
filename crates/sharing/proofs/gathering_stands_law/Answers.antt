-- Answers to the goals of `gathering_stands_law`: what the root of a list stands for, the root of the
-- list of what it reaches stands for too.
use Rattle.sharing.proofs.Standing.{gathering_stands}
use Rattle.sharing.proofs.gathering_stands_law.Goals as goal

pub returns : goal.returns
returns c = gathering_stands
