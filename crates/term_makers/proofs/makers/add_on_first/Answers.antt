-- Answers to the goals of `add_on_first`: a term on the first part of a pair, whose second part is of a type.
use Rattle.term_core.proofs.Growth.{standing_stays}
use Rattle.term_makers.proofs.Later.{as_made, first_later}
use Rattle.term_makers.proofs.makers.add_on_first.Goals as goal

pub returns-in_err-both-clause-stands : goal.returns-in_err-both-clause-stands
returns-in_err-both-clause-stands c = standing_stays c.args.types.now c.product.new.self c.args.terms.now c.requires.stands c.product.ensures.grown

pub add-requires-clause-stands : goal.add-requires-clause-stands
add-requires-clause-stands c = standing_stays c.args.types.now c.product.new.self c.args.terms.now c.requires.stands c.product.ensures.grown

pub add-requires-clause-follows : goal.add-requires-clause-follows
add-requires-clause-follows c = (first_later c.args.types.now c.product.new.self c.args.terms.now c.requires.stands c.product.ensures.grown c.args.term _ _ c.args.other c.in_ok-both.both c.arrow_of-source.ensures c.in_ok-both.ensures.ok).follows

pub returns-clause-ok : goal.returns-clause-ok
returns-clause-ok c =
    as_made c.product.new.self c.args.terms.now c.add.new.self _ _ c.add.result (first_later c.args.types.now c.product.new.self c.args.terms.now c.requires.stands c.product.ensures.grown c.args.term _ _ c.args.other c.in_ok-both.both c.arrow_of-source.ensures c.in_ok-both.ensures.ok) c.add.ensures.ok
