-- Answers to the goals of `add_left_alone`: what the left tag holds; failure at the other.
use Rattle.simplicity.specs.Makes.{only_left}
use Rattle.type_table.specs.Kinds.{kind_at}
use Rattle.term_core.specs.Terms.{term_at}
use Rattle.term_recipes.specs.Shapes.{left_alone}
use Rattle.term_recipes.proofs.Later.{made_is}
use Rattle.term_recipes.proofs.Tests.{left_from, left_made}
use Rattle.term_recipes.proofs.tested.add_left_alone.Goals as goal

pub add_only_left-requires-clause-from : goal.add_only_left-requires-clause-from
add_only_left-requires-clause-from c = left_from c.args.types.now c.add_held.new.types c.unit.new.self c.add_held.new.terms c.args.left c.args.right c.in_ok-first.first c.in_ok-one.one c.in_ok-first.ensures.grown c.in_ok-one.ensures.grown c.in_ok-first.ensures.stands c.requires.left c.requires.right c.in_ok-one.ensures.ok c.in_ok-first.ensures.ok

pub returns-clause-ok : goal.returns-clause-ok
returns-clause-ok c =
    let kind = kind_at c.unit.new.self in
    made_is c.add_only_left.new.types c.add_only_left.new.terms c.add_only_left.result (only_left (kind c.args.left) (kind c.args.right) (kind c.in_ok-one.one) (term_at c.unit.new.self c.add_held.new.terms c.in_ok-first.first))
    (left_alone (kind_at c.args.types.now c.args.left) (kind_at c.args.types.now c.args.right))
    (left_made c.args.types.now c.add_held.new.types c.unit.new.self c.add_held.new.terms c.args.left c.args.right c.in_ok-first.first c.in_ok-one.one c.in_ok-first.ensures.grown c.in_ok-one.ensures.grown c.in_ok-first.ensures.stands c.requires.left c.requires.right c.in_ok-one.ensures.ok c.in_ok-first.ensures.ok) c.add_only_left.ensures.ok
