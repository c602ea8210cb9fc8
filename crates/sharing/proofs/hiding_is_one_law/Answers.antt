-- Answers to the goals of `hiding_is_one_law`: a run hides the sides of a list in one way at most.
use Rattle.sharing.proofs.Cuts.{hiding_is_one}
use Rattle.sharing.proofs.hiding_is_one_law.Goals as goal

pub returns : goal.returns
returns c = hiding_is_one
