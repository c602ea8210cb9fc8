-- Answers to the goals of `add_comp`: one term and then another, whose source is the target of the first.
use Rattle.term_makers.proofs.Made.{comp_made}
use Rattle.term_makers.proofs.makers.add_comp.Goals as goal

pub add-requires-clause-follows : goal.add-requires-clause-follows
add-requires-clause-follows c =
    (comp_made c.args.types.now c.args.terms.now c.args.first c.args.second _ _ _ _ c.arrow_of-source.ensures c.arrow_of-start.ensures c.requires.meets).follows
