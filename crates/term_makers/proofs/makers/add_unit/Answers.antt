-- Answers to the goals of `add_unit`: the unit value, on the values of a type.
use Rattle.term_core.proofs.Growth.{standing_stays}
use Rattle.term_makers.proofs.Later.{as_made, unit_later}
use Rattle.term_makers.proofs.makers.add_unit.Goals as goal

pub returns-in_err-one-clause-stands : goal.returns-in_err-one-clause-stands
returns-in_err-one-clause-stands c = standing_stays c.args.types.now c.unit.new.self c.args.terms.now c.requires.stands c.unit.ensures.grown

pub add-requires-clause-stands : goal.add-requires-clause-stands
add-requires-clause-stands c = standing_stays c.args.types.now c.unit.new.self c.args.terms.now c.requires.stands c.unit.ensures.grown

pub add-requires-clause-follows : goal.add-requires-clause-follows
add-requires-clause-follows c = (unit_later c.args.types.now c.unit.new.self c.args.terms.now c.requires.stands c.unit.ensures.grown c.args.kind c.in_ok-one.one c.requires.kind c.in_ok-one.ensures.ok).follows

pub returns-clause-ok : goal.returns-clause-ok
returns-clause-ok c =
    as_made c.unit.new.self c.args.terms.now c.add.new.self _ _ c.add.result (unit_later c.args.types.now c.unit.new.self c.args.terms.now c.requires.stands c.unit.ensures.grown c.args.kind c.in_ok-one.one c.requires.kind c.in_ok-one.ensures.ok) c.add.ensures.ok
