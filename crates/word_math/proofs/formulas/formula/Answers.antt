-- Answers to the goals of `formula`: what a jet gives: the results that its formula over whole numbers
-- has, of the widths of its types.
use Rattle.word_math.proofs.Listed.{sized}
use Rattle.word_math.proofs.formulas.formula.Goals as goal

pub answered-requires-clause-sized : goal.answered-requires-clause-sized
answered-requires-clause-sized c = sized _ _ _ c.requires.jet
