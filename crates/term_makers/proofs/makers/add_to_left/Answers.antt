-- Answers to the goals of `add_to_left`: what a term gives, as the left of a sum whose right is of a type.
use Rattle.term_core.proofs.Growth.{standing_stays}
use Rattle.term_makers.proofs.Later.{as_made, left_later}
use Rattle.term_makers.proofs.makers.add_to_left.Goals as goal

pub returns-in_err-either-clause-stands : goal.returns-in_err-either-clause-stands
returns-in_err-either-clause-stands c = standing_stays c.args.types.now c.sum.new.self c.args.terms.now c.requires.stands c.sum.ensures.grown

pub add-requires-clause-stands : goal.add-requires-clause-stands
add-requires-clause-stands c = standing_stays c.args.types.now c.sum.new.self c.args.terms.now c.requires.stands c.sum.ensures.grown

pub add-requires-clause-follows : goal.add-requires-clause-follows
add-requires-clause-follows c = (left_later c.args.types.now c.sum.new.self c.args.terms.now c.requires.stands c.sum.ensures.grown c.args.term _ _ c.args.other c.in_ok-either.either c.arrow_of-source.ensures c.in_ok-either.ensures.ok).follows

pub returns-clause-ok : goal.returns-clause-ok
returns-clause-ok c =
    as_made c.sum.new.self c.args.terms.now c.add.new.self _ _ c.add.result (left_later c.args.types.now c.sum.new.self c.args.terms.now c.requires.stands c.sum.ensures.grown c.args.term _ _ c.args.other c.in_ok-either.either c.arrow_of-source.ensures c.in_ok-either.ensures.ok) c.add.ensures.ok
