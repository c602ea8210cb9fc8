-- Answers to the goals of `naturals_are_refused_law`: a natural is refused as too large exactly where a
-- length part of 32 or more stands whole, and else exactly where the bits end.
use Rattle.spelling.proofs.Refusals.{naturals_are_refused}
use Rattle.spelling.proofs.naturals_are_refused_law.Goals as goal

pub returns : goal.returns
returns c = naturals_are_refused
