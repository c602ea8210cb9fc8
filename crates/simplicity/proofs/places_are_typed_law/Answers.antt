-- Answers to the goals of `places_are_typed_law`: a term that is typed at every place has its arrow by
-- the typing table on trees.
use Rattle.simplicity.proofs.Arrows.{places_are_typed}
use Rattle.simplicity.proofs.places_are_typed_law.Goals as goal

pub returns : goal.returns
returns c = places_are_typed
