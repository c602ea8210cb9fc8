-- Answers to the goals of `add_by_tag`: one term or another, by the tag of the first part of a pair.
use Rattle.type_table.specs.Kinds.{kind_at}
use Rattle.term_core.proofs.Growth.{standing_stays}
use Rattle.term_makers.proofs.Later.{as_made, tag_later}
use Rattle.term_makers.proofs.makers.add_by_tag.Goals as goal

pub returns-in_err-tagged-clause-stands : goal.returns-in_err-tagged-clause-stands
returns-in_err-tagged-clause-stands c = standing_stays c.args.types.now c.tagged_type.new.types c.args.terms.now c.requires.stands c.tagged_type.ensures.grown

pub add-requires-clause-stands : goal.add-requires-clause-stands
add-requires-clause-stands c = standing_stays c.args.types.now c.tagged_type.new.types c.args.terms.now c.requires.stands c.tagged_type.ensures.grown

pub add-requires-clause-follows : goal.add-requires-clause-follows
add-requires-clause-follows c =
    (tag_later c.args.types.now c.tagged_type.new.types c.args.terms.now c.requires.stands c.tagged_type.ensures.grown c.args.first c.args.second _ _ c.in_ok-tagged.tagged (kind_at c.args.types.now c.args.left) (kind_at c.args.types.now c.args.right) (kind_at c.args.types.now c.args.rest)
    c.arrow_of-source.ensures c.requires.second c.requires.from_left c.requires.from_right c.requires.meets c.in_ok-tagged.ensures.ok).follows

pub returns-clause-ok : goal.returns-clause-ok
returns-clause-ok c =
    as_made c.tagged_type.new.types c.args.terms.now c.add.new.self _ _ c.add.result
    (tag_later c.args.types.now c.tagged_type.new.types c.args.terms.now c.requires.stands c.tagged_type.ensures.grown c.args.first c.args.second _ _ c.in_ok-tagged.tagged (kind_at c.args.types.now c.args.left) (kind_at c.args.types.now c.args.right) (kind_at c.args.types.now c.args.rest)
    c.arrow_of-source.ensures c.requires.second c.requires.from_left c.requires.from_right c.requires.meets c.in_ok-tagged.ensures.ok) c.add.ensures.ok
