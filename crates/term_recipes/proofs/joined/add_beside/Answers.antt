-- Answers to the goals of `add_beside`: what two terms on one input give, as a pair, before a third term.
use Rattle.simplicity.specs.Makes.{comp, pair}
use Rattle.term_core.specs.Terms.{term_at}
use Rattle.term_recipes.specs.Shapes.{beside}
use Rattle.term_recipes.proofs.Later.{term_later, comp_same, made_is, typed_same}
use Rattle.term_recipes.proofs.joined.add_beside.Goals as goal

pub add_called-requires-clause-typed : goal.add_called-requires-clause-typed
add_called-requires-clause-typed c =
    let at = term_at c.args.types.now c.args.terms.now in
    let later = term_at c.add_paired.new.types c.add_paired.new.terms in
    let rest = term_later c.args.types.now c.add_paired.new.types c.args.terms.now c.add_paired.new.terms c.args.rest c.requires.stands c.in_ok-both.ensures.grown c.in_ok-both.ensures.kept c.requires.rest in
    typed_same (comp (later c.in_ok-both.both) (later c.args.rest)) (beside (at c.args.value) (at c.args.other) (at c.args.rest))
    (comp_same (later c.in_ok-both.both) (later c.args.rest) (pair (at c.args.value) (at c.args.other)) (at c.args.rest) c.in_ok-both.ensures.ok.is rest) c.requires.typed

pub returns-clause-ok : goal.returns-clause-ok
returns-clause-ok c =
    let at = term_at c.args.types.now c.args.terms.now in
    let later = term_at c.add_paired.new.types c.add_paired.new.terms in
    let rest = term_later c.args.types.now c.add_paired.new.types c.args.terms.now c.add_paired.new.terms c.args.rest c.requires.stands c.in_ok-both.ensures.grown c.in_ok-both.ensures.kept c.requires.rest in
    made_is c.add_paired.new.types c.add_called.new.terms c.add_called.result (comp (later c.in_ok-both.both) (later c.args.rest)) (beside (at c.args.value) (at c.args.other) (at c.args.rest))
    (comp_same (later c.in_ok-both.both) (later c.args.rest) (pair (at c.args.value) (at c.args.other)) (at c.args.rest) c.in_ok-both.ensures.ok.is rest) c.add_called.ensures.ok
