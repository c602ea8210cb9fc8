-- Answers to the goals of `gathering_is_typed_law`: where a list has a typing, what its root reaches has
-- one with the same arrow.
use Rattle.sharing.proofs.Gathered.{gathering_is_typed}
use Rattle.sharing.proofs.gathering_is_typed_law.Goals as goal

pub returns : goal.returns
returns c = gathering_is_typed
