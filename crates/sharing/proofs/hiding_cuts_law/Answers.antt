-- Answers to the goals of `hiding_cuts_law`: hiding what a run doesn't visit is a cut.
use Rattle.sharing.proofs.Cuts.{hiding_cuts}
use Rattle.sharing.proofs.hiding_cuts_law.Goals as goal

pub returns : goal.returns
returns c = hiding_cuts
