-- Answers to the goals of `add_tuple`: the tuple of parts, or the array of items, by halves.
use Rattle.std.proofs.Common.{◌/◌, ◌<◌, length, arith}
use Rattle.simplicity.specs.Makes.{pair, tuple}
use Rattle.type_table.specs.Kinds.{kind_at}
use Rattle.term_core.specs.Terms.{term_at}
use Rattle.term_recipes.specs.Shapes.{terms_at}
use Rattle.term_recipes.proofs.Halved.{back_typed, front_typed, halves_made, there_drop, there_later, there_take, tuple_later}
use Rattle.term_recipes.proofs.Later.{made_is, type_later, typed_same}
use Rattle.term_recipes.proofs.tuples.+add_tuple.Goals as goal

pub add_tuple-requires : goal.add_tuple-requires
add_tuple-requires t c =
    let ids = c.args.parts.now in
    let front = c.split_at.result.0.now in
    let back = c.split_at.result.1.now in
    let many : 1 < length ids = omega arith in
    let a = kind_at c.args.types.now c.args.source in (
      omega arith,
      (
        c.requires.stands,
        (
          c.requires.source,
          (
            there_take c.args.terms.now (length ids / 2) ids front c.split_at.ensures.front c.requires.parts,
            front_typed c.args.types.now c.args.terms.now a ids front back many c.split_at.ensures.front c.split_at.ensures.back c.requires.typed,
          ),
        ),
      ),
    )

pub add_tuple-requires-2 : goal.add_tuple-requires-2
add_tuple-requires-2 t c =
    let ids = c.args.parts.now in
    let front = c.split_at.result.0.now in
    let back = c.split_at.result.1.now in
    let many : 1 < length ids = omega arith in
    let a = kind_at c.args.types.now c.args.source in
    let there = there_drop c.args.terms.now (length ids / 2) ids back c.split_at.ensures.back c.requires.parts in (
      omega arith,
      (
        c.in_ok-first.ensures.stands,
        (
          type_later c.args.types.now c.add_tuple.new.types c.args.source c.in_ok-first.ensures.grown c.requires.source,
          (
            there_later c.args.terms.now c.add_tuple.new.terms back c.in_ok-first.ensures.kept there,
            typed_same (tuple (kind_at c.add_tuple.new.types c.args.source) (terms_at c.add_tuple.new.types c.add_tuple.new.terms back)) (tuple a (terms_at c.args.types.now c.args.terms.now back))
                (tuple_later c.args.types.now c.add_tuple.new.types c.args.terms.now c.add_tuple.new.terms c.args.source back c.requires.stands c.in_ok-first.ensures.grown c.in_ok-first.ensures.kept c.requires.source there)
                (back_typed c.args.types.now c.args.terms.now a ids front back many c.split_at.ensures.front c.split_at.ensures.back c.requires.typed),
          ),
        ),
      ),
    )

pub add_paired-requires-clause-typed : goal.add_paired-requires-clause-typed
add_paired-requires-clause-typed t c =
    let ids = c.args.parts.now in
    let many : 1 < length ids = omega arith in
    let later = term_at c.add_tuple-2.new.types c.add_tuple-2.new.terms in
    let there = there_drop c.args.terms.now (length ids / 2) ids c.split_at.result.1.now c.split_at.ensures.back c.requires.parts in
    typed_same (pair (later c.in_ok-first.first) (later c.in_ok-rest.rest)) (tuple (kind_at c.args.types.now c.args.source) (terms_at c.args.types.now c.args.terms.now ids))
    (halves_made c.args.types.now c.add_tuple.new.types c.add_tuple-2.new.types c.args.terms.now c.add_tuple.new.terms c.add_tuple-2.new.terms c.args.source c.in_ok-first.first c.in_ok-rest.rest ids c.split_at.result.0.now c.split_at.result.1.now many c.split_at.ensures.front c.split_at.ensures.back
    c.requires.stands c.in_ok-first.ensures.stands c.in_ok-first.ensures.grown c.in_ok-rest.ensures.grown c.in_ok-first.ensures.kept c.in_ok-rest.ensures.kept c.requires.source there c.in_ok-first.ensures.ok c.in_ok-rest.ensures.ok) c.requires.typed

pub returns-clause-ok : goal.returns-clause-ok
returns-clause-ok t c =
    let ids = c.args.parts.now in
    let many : 1 < length ids = omega arith in
    let later = term_at c.add_tuple-2.new.types c.add_tuple-2.new.terms in
    let there = there_drop c.args.terms.now (length ids / 2) ids c.split_at.result.1.now c.split_at.ensures.back c.requires.parts in
    made_is c.add_paired.new.types c.add_paired.new.terms c.add_paired.result (pair (later c.in_ok-first.first) (later c.in_ok-rest.rest)) (tuple (kind_at c.args.types.now c.args.source) (terms_at c.args.types.now c.args.terms.now ids))
    (halves_made c.args.types.now c.add_tuple.new.types c.add_tuple-2.new.types c.args.terms.now c.add_tuple.new.terms c.add_tuple-2.new.terms c.args.source c.in_ok-first.first c.in_ok-rest.rest ids c.split_at.result.0.now c.split_at.result.1.now many c.split_at.ensures.front c.split_at.ensures.back
    c.requires.stands c.in_ok-first.ensures.stands c.in_ok-first.ensures.grown c.in_ok-rest.ensures.grown c.in_ok-first.ensures.kept c.in_ok-rest.ensures.kept c.requires.source there c.in_ok-first.ensures.ok c.in_ok-rest.ensures.ok) c.add_paired.ensures.ok
