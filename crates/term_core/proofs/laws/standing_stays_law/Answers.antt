-- Answers to the goals of `standing_stays_law`: a table stands over its types once they have grown.
use Rattle.term_core.proofs.Growth.{standing_stays}
use Rattle.term_core.proofs.laws.standing_stays_law.Goals as goal

pub returns : goal.returns
returns c = standing_stays
