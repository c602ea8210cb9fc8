-- Answers to the goals of `merging_keeps_least_law`: merging nodes equal in kind, children and least
-- arrow changes no least arrow.
use Rattle.sharing.proofs.Merging.{merging_keeps_least}
use Rattle.sharing.proofs.merging_keeps_least_law.Goals as goal

pub returns : goal.returns
returns c = merging_keeps_least
