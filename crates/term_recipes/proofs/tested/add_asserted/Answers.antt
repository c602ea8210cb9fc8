-- Answers to the goals of `add_asserted`: the unit value where a truth value is true, and failure where it is false.
use Rattle.type_table.specs.Kinds.{kind_at}
use Rattle.term_core.specs.Terms.{term_at}
use Rattle.hl_terms.specs.Translated.{asserted}
use Rattle.term_recipes.specs.Shapes.{tested_by, true_alone}
use Rattle.term_recipes.proofs.Later.{kind_later, made_is, term_later, tested_same, typed_same}
use Rattle.term_recipes.proofs.tested.add_asserted.Goals as goal

pub add_tested-requires-clause-typed : goal.add_tested-requires-clause-typed
add_tested-requires-clause-typed c =
    let value = term_at c.args.types.now c.args.terms.now c.args.value in
    let kind = kind_at c.args.types.now c.args.source in
    let later = term_at c.add_assertion.new.types c.add_assertion.new.terms in
    let stays = term_later c.args.types.now c.add_assertion.new.types c.args.terms.now c.add_assertion.new.terms c.args.value c.requires.stands c.in_ok-test.ensures.grown c.in_ok-test.ensures.kept c.requires.value in
    let source = kind_later c.args.types.now c.add_assertion.new.types c.args.source c.in_ok-test.ensures.grown c.requires.source in
    let same = tested_same (later c.args.value) (later c.in_ok-test.test) value (true_alone) (kind_at c.add_assertion.new.types c.args.source) kind stays source c.in_ok-test.ensures.ok.is in
    let made = tested_by (later c.args.value) (kind_at c.add_assertion.new.types c.args.source) (later c.in_ok-test.test) in
    typed_same made (asserted value kind) same c.requires.typed

pub returns-clause-ok : goal.returns-clause-ok
returns-clause-ok c =
    let value = term_at c.args.types.now c.args.terms.now c.args.value in
    let kind = kind_at c.args.types.now c.args.source in
    let later = term_at c.add_assertion.new.types c.add_assertion.new.terms in
    let stays = term_later c.args.types.now c.add_assertion.new.types c.args.terms.now c.add_assertion.new.terms c.args.value c.requires.stands c.in_ok-test.ensures.grown c.in_ok-test.ensures.kept c.requires.value in
    let source = kind_later c.args.types.now c.add_assertion.new.types c.args.source c.in_ok-test.ensures.grown c.requires.source in
    let same = tested_same (later c.args.value) (later c.in_ok-test.test) value (true_alone) (kind_at c.add_assertion.new.types c.args.source) kind stays source c.in_ok-test.ensures.ok.is in
    let made = tested_by (later c.args.value) (kind_at c.add_assertion.new.types c.args.source) (later c.in_ok-test.test) in
    made_is c.add_tested.new.types c.add_tested.new.terms c.add_tested.result made (asserted value kind) same c.add_tested.ensures.ok
