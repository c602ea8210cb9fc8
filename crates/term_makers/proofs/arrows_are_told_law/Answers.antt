-- Answers to the goals of `arrows_are_told_law`: the ids of the source and the target of a row mean the
-- source and the target of its term.
use Rattle.term_makers.proofs.Made.{arrows_are_told}
use Rattle.term_makers.proofs.arrows_are_told_law.Goals as goal

pub returns : goal.returns
returns c = arrows_are_told
