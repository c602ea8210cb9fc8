-- Answers to the goals of `add_none_test`: the test that an option holds nothing.
use Rattle.simplicity.specs.Makes.{by_tag}
use Rattle.type_table.specs.Kinds.{kind_at}
use Rattle.term_core.specs.Terms.{term_at}
use Rattle.term_recipes.specs.Shapes.{none_test}
use Rattle.term_recipes.proofs.Later.{made_is}
use Rattle.term_recipes.proofs.Tests.{nothing_from, some_from, sides_meet, test_made}
use Rattle.term_recipes.proofs.tested.add_none_test.Goals as goal

pub add_by_tag-requires-clause-from_left : goal.add_by_tag-requires-clause-from_left
add_by_tag-requires-clause-from_left c = nothing_from c.args.types.now c.option_types.new.types c.add_true.new.types c.add_false.new.types c.add_true.new.terms c.add_false.new.terms c.args.item c.in_ok-one.one c.in_ok-one.nothing c.in_ok-one.some c.in_ok-yes.yes c.in_ok-no.no c.in_ok-one.ensures.grown c.in_ok-yes.ensures.grown c.in_ok-no.ensures.grown c.in_ok-no.ensures.kept c.in_ok-yes.ensures.stands c.requires.item c.in_ok-one.ensures.one c.in_ok-one.ensures.nothing c.in_ok-one.ensures.some c.in_ok-yes.ensures.ok c.in_ok-no.ensures.ok

pub add_by_tag-requires-clause-from_right : goal.add_by_tag-requires-clause-from_right
add_by_tag-requires-clause-from_right c = some_from c.args.types.now c.option_types.new.types c.add_true.new.types c.add_false.new.types c.add_true.new.terms c.add_false.new.terms c.args.item c.in_ok-one.one c.in_ok-one.nothing c.in_ok-one.some c.in_ok-yes.yes c.in_ok-no.no c.in_ok-one.ensures.grown c.in_ok-yes.ensures.grown c.in_ok-no.ensures.grown c.in_ok-no.ensures.kept c.in_ok-yes.ensures.stands c.requires.item c.in_ok-one.ensures.one c.in_ok-one.ensures.nothing c.in_ok-one.ensures.some c.in_ok-yes.ensures.ok c.in_ok-no.ensures.ok

pub add_by_tag-requires-clause-meets : goal.add_by_tag-requires-clause-meets
add_by_tag-requires-clause-meets c = sides_meet c.args.types.now c.option_types.new.types c.add_true.new.types c.add_false.new.types c.add_true.new.terms c.add_false.new.terms c.args.item c.in_ok-one.one c.in_ok-one.nothing c.in_ok-one.some c.in_ok-yes.yes c.in_ok-no.no c.in_ok-one.ensures.grown c.in_ok-yes.ensures.grown c.in_ok-no.ensures.grown c.in_ok-no.ensures.kept c.in_ok-yes.ensures.stands c.requires.item c.in_ok-one.ensures.one c.in_ok-one.ensures.nothing c.in_ok-one.ensures.some c.in_ok-yes.ensures.ok c.in_ok-no.ensures.ok

pub returns-clause-ok : goal.returns-clause-ok
returns-clause-ok c =
    let kind = kind_at c.add_false.new.types in
    let at = term_at c.add_false.new.types c.add_false.new.terms in
    made_is c.add_by_tag.new.types c.add_by_tag.new.terms c.add_by_tag.result (by_tag (kind c.in_ok-one.one) (kind c.args.item) (kind c.in_ok-one.one) (at c.in_ok-yes.yes) (at c.in_ok-no.no)) (none_test (kind_at c.args.types.now c.args.item))
    (test_made c.args.types.now c.option_types.new.types c.add_true.new.types c.add_false.new.types c.add_true.new.terms c.add_false.new.terms c.args.item c.in_ok-one.one c.in_ok-one.nothing c.in_ok-one.some c.in_ok-yes.yes c.in_ok-no.no c.in_ok-one.ensures.grown c.in_ok-yes.ensures.grown c.in_ok-no.ensures.grown c.in_ok-no.ensures.kept c.in_ok-yes.ensures.stands c.requires.item c.in_ok-one.ensures.one c.in_ok-one.ensures.nothing c.in_ok-one.ensures.some c.in_ok-yes.ensures.ok c.in_ok-no.ensures.ok) c.add_by_tag.ensures.ok
