-- Answers to the goals of `made_is_typed_law`: what is made of terms that are typed at every place is
-- typed at every place, where its parts go together.
use Rattle.simplicity.proofs.Arrows.{made_is_typed}
use Rattle.simplicity.proofs.made_is_typed_law.Goals as goal

pub returns : goal.returns
returns c = made_is_typed
