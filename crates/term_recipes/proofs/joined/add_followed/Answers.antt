-- Answers to the goals of `add_followed`: a value that is dropped, and what comes after it in the same scope.
use Rattle.std.proofs.Common.{◌∙◌}
use Rattle.simplicity.specs.Arrows.{target}
use Rattle.simplicity.specs.Makes.{iden, on_second}
use Rattle.type_table.specs.Kinds.{kind_at}
use Rattle.term_core.specs.Terms.{term_at}
use Rattle.term_core.proofs.Growth.{kept_through}
use Rattle.term_recipes.specs.Shapes.{beside, followed_by}
use Rattle.term_recipes.proofs.Later.{beside_same, made_is, second_same, term_later, typed_same}
use Rattle.term_recipes.proofs.joined.add_followed.Goals as goal

pub add_beside-requires-clause-typed : goal.add_beside-requires-clause-typed
add_beside-requires-clause-typed c =
    let at = term_at c.args.types.now c.args.terms.now in
    let later = term_at c.add_on_second.new.types c.add_on_second.new.terms in
    let kept = kept_through c.args.terms.now c.add_iden.new.terms c.add_on_second.new.terms c.in_ok-last.ensures.kept c.in_ok-second.ensures.kept in
    let value = term_later c.args.types.now c.add_on_second.new.types c.args.terms.now c.add_on_second.new.terms c.args.value c.requires.stands c.in_ok-second.ensures.grown kept c.requires.value in
    let rest = term_later c.args.types.now c.add_on_second.new.types c.args.terms.now c.add_on_second.new.terms c.args.rest c.requires.stands c.in_ok-second.ensures.grown kept c.requires.rest in
    let dropped = kind_at c.args.types.now c.arrow_of-source.result.1 in
    let kind = kind_at c.args.types.now c.arrow_of-source-2.result.1 in
    let last = term_at c.args.types.now c.add_iden.new.terms c.in_ok-last.last in
    let second = c.in_ok-second.ensures.ok.is ∙ second_same dropped (target (at c.args.value)) kind last c.arrow_of-source.ensures.target.is c.in_ok-last.ensures.ok.is (target (at c.args.rest)) c.arrow_of-source-2.ensures.target.is in
    let same = beside_same (later c.args.value) (later c.args.rest) (later c.in_ok-second.second) (at c.args.value) (at c.args.rest) (on_second (target (at c.args.value)) (iden (target (at c.args.rest)))) value rest second in
    typed_same (beside (later c.args.value) (later c.args.rest) (later c.in_ok-second.second)) (followed_by (at c.args.value) (at c.args.rest)) same c.requires.typed

pub returns-clause-ok : goal.returns-clause-ok
returns-clause-ok c =
    let at = term_at c.args.types.now c.args.terms.now in
    let later = term_at c.add_on_second.new.types c.add_on_second.new.terms in
    let kept = kept_through c.args.terms.now c.add_iden.new.terms c.add_on_second.new.terms c.in_ok-last.ensures.kept c.in_ok-second.ensures.kept in
    let value = term_later c.args.types.now c.add_on_second.new.types c.args.terms.now c.add_on_second.new.terms c.args.value c.requires.stands c.in_ok-second.ensures.grown kept c.requires.value in
    let rest = term_later c.args.types.now c.add_on_second.new.types c.args.terms.now c.add_on_second.new.terms c.args.rest c.requires.stands c.in_ok-second.ensures.grown kept c.requires.rest in
    let dropped = kind_at c.args.types.now c.arrow_of-source.result.1 in
    let kind = kind_at c.args.types.now c.arrow_of-source-2.result.1 in
    let last = term_at c.args.types.now c.add_iden.new.terms c.in_ok-last.last in
    let second = c.in_ok-second.ensures.ok.is ∙ second_same dropped (target (at c.args.value)) kind last c.arrow_of-source.ensures.target.is c.in_ok-last.ensures.ok.is (target (at c.args.rest)) c.arrow_of-source-2.ensures.target.is in
    let same = beside_same (later c.args.value) (later c.args.rest) (later c.in_ok-second.second) (at c.args.value) (at c.args.rest) (on_second (target (at c.args.value)) (iden (target (at c.args.rest)))) value rest second in
    made_is c.add_beside.new.types c.add_beside.new.terms c.add_beside.result (beside (later c.args.value) (later c.args.rest) (later c.in_ok-second.second))
    (followed_by (at c.args.value) (at c.args.rest)) same c.add_beside.ensures.ok
