-- Answers to the goals of `add_pair`: what two terms from one source give, as a pair.
use Rattle.term_core.proofs.Growth.{standing_stays}
use Rattle.term_makers.proofs.Later.{as_made, pair_later}
use Rattle.term_makers.proofs.makers.add_pair.Goals as goal

pub returns-in_err-both-clause-stands : goal.returns-in_err-both-clause-stands
returns-in_err-both-clause-stands c = standing_stays c.args.types.now c.product.new.self c.args.terms.now c.requires.stands c.product.ensures.grown

pub add-requires-clause-stands : goal.add-requires-clause-stands
add-requires-clause-stands c = standing_stays c.args.types.now c.product.new.self c.args.terms.now c.requires.stands c.product.ensures.grown

pub add-requires-clause-follows : goal.add-requires-clause-follows
add-requires-clause-follows c =
    (pair_later c.args.types.now c.product.new.self c.args.terms.now c.requires.stands c.product.ensures.grown c.args.first c.args.second _ _ _ _ c.in_ok-both.both
    c.arrow_of-source.ensures c.arrow_of-source-2.ensures c.requires.meets c.in_ok-both.ensures.ok).follows

pub returns-clause-ok : goal.returns-clause-ok
returns-clause-ok c =
    as_made c.product.new.self c.args.terms.now c.add.new.self _ _ c.add.result
    (pair_later c.args.types.now c.product.new.self c.args.terms.now c.requires.stands c.product.ensures.grown c.args.first c.args.second _ _ _ _ c.in_ok-both.both
    c.arrow_of-source.ensures c.arrow_of-source-2.ensures c.requires.meets c.in_ok-both.ensures.ok) c.add.ensures.ok
