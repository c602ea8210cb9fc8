-- Answers to the goals of `terms_stay_law`: an id means the same once the table and its types have grown.
use Rattle.term_core.proofs.Growth.{terms_stay}
use Rattle.term_core.proofs.laws.terms_stay_law.Goals as goal

pub returns : goal.returns
returns c = terms_stay
