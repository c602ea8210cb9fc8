-- Answers to the goals of `arrow_of`: the ids of the source and the target of a term.
use Rattle.term_makers.proofs.Made.{arrows_are_told}
use Rattle.term_makers.proofs.makers.arrow_of.Goals as goal

pub returns : goal.returns
returns c = arrows_are_told c.args.types.now c.args.terms.now c.args.id c.arrow.result.0 c.arrow.result.1 c.requires.stands c.arrow.ensures
