-- Answers to the goals of `add_only_left`: a term on the left of a tagged pair alone; the other side is
-- hidden, and fails.
use Rattle.type_table.specs.Kinds.{kind_at}
use Rattle.term_core.proofs.Growth.{standing_stays}
use Rattle.term_makers.proofs.Later.{as_made, only_left_later}
use Rattle.term_makers.proofs.makers.add_only_left.Goals as goal

pub returns-in_err-tagged-clause-stands : goal.returns-in_err-tagged-clause-stands
returns-in_err-tagged-clause-stands c = standing_stays c.args.types.now c.tagged_type.new.types c.args.terms.now c.requires.stands c.tagged_type.ensures.grown

pub add-requires-clause-stands : goal.add-requires-clause-stands
add-requires-clause-stands c = standing_stays c.args.types.now c.tagged_type.new.types c.args.terms.now c.requires.stands c.tagged_type.ensures.grown

pub add-requires-clause-follows : goal.add-requires-clause-follows
add-requires-clause-follows c = (only_left_later c.args.types.now c.tagged_type.new.types c.args.terms.now c.requires.stands c.tagged_type.ensures.grown c.args.term _ _ c.in_ok-tagged.tagged (kind_at c.args.types.now c.args.left) (kind_at c.args.types.now c.args.right) (kind_at c.args.types.now c.args.rest) c.args.hidden c.arrow_of-source.ensures c.requires.from c.in_ok-tagged.ensures.ok c.requires.hidden).follows

pub returns-clause-ok : goal.returns-clause-ok
returns-clause-ok c =
    as_made c.tagged_type.new.types c.args.terms.now c.add.new.self _ _ c.add.result (only_left_later c.args.types.now c.tagged_type.new.types c.args.terms.now c.requires.stands c.tagged_type.ensures.grown c.args.term _ _ c.in_ok-tagged.tagged (kind_at c.args.types.now c.args.left) (kind_at c.args.types.now c.args.right) (kind_at c.args.types.now c.args.rest) c.args.hidden c.arrow_of-source.ensures c.requires.from c.in_ok-tagged.ensures.ok c.requires.hidden) c.add.ensures.ok
