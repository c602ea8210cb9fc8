-- Answers to the goals of `naturals_have_parts_law`: a natural is read by its parts, as many as ones
-- stand first, without recursion.
use Rattle.spelling.proofs.Parts.{naturals_have_parts}
use Rattle.spelling.proofs.naturals_have_parts_law.Goals as goal

pub returns : goal.returns
returns c = naturals_have_parts
