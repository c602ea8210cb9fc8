-- Answers to the goals of `naturals_agree_law`: the function that gives a natural's code and the
-- relation by cases agree.
use Rattle.simplicity.proofs.Naturals.{natural_holds, natural_only}
use Rattle.simplicity.proofs.naturals_agree_law.Goals as goal

pub returns : goal.returns
returns c = record { holds = natural_holds; only = natural_only }
