-- Answers to the goals of `add_bound`: a value bound before its scope, and what comes after it, as a `let`.
use Rattle.simplicity.specs.Makes.{iden}
use Rattle.type_table.specs.Kinds.{kind_at}
use Rattle.term_core.specs.Terms.{term_at}
use Rattle.term_core.proofs.Growth.{term_at-kept}
use Rattle.term_recipes.specs.Shapes.{beside, bound_in}
use Rattle.term_recipes.proofs.Later.{beside_same, made_is, typed_same}
use Rattle.term_recipes.proofs.joined.add_bound.Goals as goal

pub add_beside-requires-clause-typed : goal.add_beside-requires-clause-typed
add_beside-requires-clause-typed c =
    let at = term_at c.args.types.now c.args.terms.now in
    let later = term_at c.args.types.now c.add_iden.new.terms in
    let value = term_at-kept c.args.types.now c.args.terms.now c.add_iden.new.terms c.args.value c.in_ok-here.ensures.kept c.requires.value in
    let rest = term_at-kept c.args.types.now c.args.terms.now c.add_iden.new.terms c.args.rest c.in_ok-here.ensures.kept c.requires.rest in
    let same = beside_same (later c.args.value) (later c.in_ok-here.here) (later c.args.rest) (at c.args.value) (iden (kind_at c.args.types.now c.args.source)) (at c.args.rest) value c.in_ok-here.ensures.ok.is rest in
    typed_same (beside (later c.args.value) (later c.in_ok-here.here) (later c.args.rest)) (bound_in (at c.args.value) (kind_at c.args.types.now c.args.source) (at c.args.rest)) same c.requires.typed

pub returns-clause-ok : goal.returns-clause-ok
returns-clause-ok c =
    let at = term_at c.args.types.now c.args.terms.now in
    let later = term_at c.args.types.now c.add_iden.new.terms in
    let value = term_at-kept c.args.types.now c.args.terms.now c.add_iden.new.terms c.args.value c.in_ok-here.ensures.kept c.requires.value in
    let rest = term_at-kept c.args.types.now c.args.terms.now c.add_iden.new.terms c.args.rest c.in_ok-here.ensures.kept c.requires.rest in
    let same = beside_same (later c.args.value) (later c.in_ok-here.here) (later c.args.rest) (at c.args.value) (iden (kind_at c.args.types.now c.args.source)) (at c.args.rest) value c.in_ok-here.ensures.ok.is rest in
    made_is c.add_beside.new.types c.add_beside.new.terms c.add_beside.result (beside (later c.args.value) (later c.in_ok-here.here) (later c.args.rest))
    (bound_in (at c.args.value) (kind_at c.args.types.now c.args.source) (at c.args.rest)) same c.add_beside.ensures.ok
