-- Answers to the goals of `add_right_alone`: what the right tag holds; failure at the other.
use Rattle.simplicity.specs.Makes.{only_right}
use Rattle.type_table.specs.Kinds.{kind_at}
use Rattle.term_core.specs.Terms.{term_at}
use Rattle.term_recipes.specs.Shapes.{right_alone}
use Rattle.term_recipes.proofs.Later.{made_is}
use Rattle.term_recipes.proofs.Tests.{right_from, right_made}
use Rattle.term_recipes.proofs.tested.add_right_alone.Goals as goal

pub add_only_right-requires-clause-from : goal.add_only_right-requires-clause-from
add_only_right-requires-clause-from c = right_from c.args.types.now c.add_held.new.types c.unit.new.self c.add_held.new.terms c.args.left c.args.right c.in_ok-first.first c.in_ok-one.one c.in_ok-first.ensures.grown c.in_ok-one.ensures.grown c.in_ok-first.ensures.stands c.requires.left c.requires.right c.in_ok-one.ensures.ok c.in_ok-first.ensures.ok

pub returns-clause-ok : goal.returns-clause-ok
returns-clause-ok c =
    let kind = kind_at c.unit.new.self in
    made_is c.add_only_right.new.types c.add_only_right.new.terms c.add_only_right.result (only_right (kind c.args.left) (kind c.args.right) (kind c.in_ok-one.one) (term_at c.unit.new.self c.add_held.new.terms c.in_ok-first.first))
    (right_alone (kind_at c.args.types.now c.args.left) (kind_at c.args.types.now c.args.right))
    (right_made c.args.types.now c.add_held.new.types c.unit.new.self c.add_held.new.terms c.args.left c.args.right c.in_ok-first.first c.in_ok-one.one c.in_ok-first.ensures.grown c.in_ok-one.ensures.grown c.in_ok-first.ensures.stands c.requires.left c.requires.right c.in_ok-one.ensures.ok c.in_ok-first.ensures.ok) c.add_only_right.ensures.ok
