-- Answers to the goals of `canon_is_one_law`: a term with declared arrows has one canonical list at most
-- at an arrow.
use Rattle.sharing.proofs.CanonOne.{canon_is_one}
use Rattle.sharing.proofs.canon_is_one_law.Goals as goal

pub returns : goal.returns
returns c = canon_is_one
