-- Answers to the goals of `cuts_are_placed_law`: a cut of a placed list is placed.
use Rattle.sharing.proofs.Cuts.{cuts_are_placed}
use Rattle.sharing.proofs.cuts_are_placed_law.Goals as goal

pub returns : goal.returns
returns c = cuts_are_placed
