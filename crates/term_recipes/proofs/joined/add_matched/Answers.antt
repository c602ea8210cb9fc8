-- Answers to the goals of `add_matched`: a match of a value in a scope, with an arm for each tag.
use Rattle.simplicity.specs.Makes.{by_tag}
use Rattle.type_table.specs.Kinds.{kind_at}
use Rattle.term_core.specs.Terms.{term_at}
use Rattle.term_recipes.specs.Shapes.{bound_in, matched}
use Rattle.term_recipes.proofs.Later.{bound_same, kind_later, made_is, term_later, typed_same}
use Rattle.term_recipes.proofs.Meets.{tag_meets}
use Rattle.term_recipes.proofs.joined.add_matched.Goals as goal

pub add_by_tag-requires-clause-from_left : goal.add_by_tag-requires-clause-from_left
add_by_tag-requires-clause-from_left c = (tag_meets (kind_at c.args.types.now c.args.left) (kind_at c.args.types.now c.args.right) (kind_at c.args.types.now c.args.source) (term_at c.args.types.now c.args.terms.now c.args.first) (term_at c.args.types.now c.args.terms.now c.args.second) c.requires.typed.2).first

pub add_by_tag-requires-clause-from_right : goal.add_by_tag-requires-clause-from_right
add_by_tag-requires-clause-from_right c = (tag_meets (kind_at c.args.types.now c.args.left) (kind_at c.args.types.now c.args.right) (kind_at c.args.types.now c.args.source) (term_at c.args.types.now c.args.terms.now c.args.first) (term_at c.args.types.now c.args.terms.now c.args.second) c.requires.typed.2).second

pub add_by_tag-requires-clause-meets : goal.add_by_tag-requires-clause-meets
add_by_tag-requires-clause-meets c = (tag_meets (kind_at c.args.types.now c.args.left) (kind_at c.args.types.now c.args.right) (kind_at c.args.types.now c.args.source) (term_at c.args.types.now c.args.terms.now c.args.first) (term_at c.args.types.now c.args.terms.now c.args.second) c.requires.typed.2).same

pub add_bound-requires-clause-typed : goal.add_bound-requires-clause-typed
add_bound-requires-clause-typed c =
    let at = term_at c.args.types.now c.args.terms.now in
    let kind = kind_at c.args.types.now in
    let later = term_at c.add_by_tag.new.types c.add_by_tag.new.terms in
    let value = term_later c.args.types.now c.add_by_tag.new.types c.args.terms.now c.add_by_tag.new.terms c.args.value c.requires.stands c.in_ok-arms.ensures.grown c.in_ok-arms.ensures.kept c.requires.value in
    let source = kind_later c.args.types.now c.add_by_tag.new.types c.args.source c.in_ok-arms.ensures.grown c.requires.source in
    let arms = by_tag (kind c.args.left) (kind c.args.right) (kind c.args.source) (at c.args.first) (at c.args.second) in
    let same = bound_same (later c.args.value) (later c.in_ok-arms.arms) (at c.args.value) arms (kind_at c.add_by_tag.new.types c.args.source) (kind c.args.source) value source c.in_ok-arms.ensures.ok.is in
    let made = bound_in (later c.args.value) (kind_at c.add_by_tag.new.types c.args.source) (later c.in_ok-arms.arms) in
    let wanted = matched (at c.args.value) (kind c.args.left) (kind c.args.right) (kind c.args.source) (at c.args.first) (at c.args.second) in
    typed_same made wanted same c.requires.typed

pub returns-clause-ok : goal.returns-clause-ok
returns-clause-ok c =
    let at = term_at c.args.types.now c.args.terms.now in
    let kind = kind_at c.args.types.now in
    let later = term_at c.add_by_tag.new.types c.add_by_tag.new.terms in
    let value = term_later c.args.types.now c.add_by_tag.new.types c.args.terms.now c.add_by_tag.new.terms c.args.value c.requires.stands c.in_ok-arms.ensures.grown c.in_ok-arms.ensures.kept c.requires.value in
    let source = kind_later c.args.types.now c.add_by_tag.new.types c.args.source c.in_ok-arms.ensures.grown c.requires.source in
    let arms = by_tag (kind c.args.left) (kind c.args.right) (kind c.args.source) (at c.args.first) (at c.args.second) in
    let same = bound_same (later c.args.value) (later c.in_ok-arms.arms) (at c.args.value) arms (kind_at c.add_by_tag.new.types c.args.source) (kind c.args.source) value source c.in_ok-arms.ensures.ok.is in
    let made = bound_in (later c.args.value) (kind_at c.add_by_tag.new.types c.args.source) (later c.in_ok-arms.arms) in
    let wanted = matched (at c.args.value) (kind c.args.left) (kind c.args.right) (kind c.args.source) (at c.args.first) (at c.args.second) in
    made_is c.add_bound.new.types c.add_bound.new.terms c.add_bound.result made wanted same c.add_bound.ensures.ok
