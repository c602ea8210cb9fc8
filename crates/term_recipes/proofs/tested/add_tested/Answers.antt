-- Answers to the goals of `add_tested`: a term beside the unit value, before a test of the two.
use Rattle.simplicity.specs.Makes.{unit}
use Rattle.type_table.specs.Kinds.{kind_at}
use Rattle.term_core.specs.Terms.{term_at}
use Rattle.term_recipes.specs.Shapes.{beside, tested_by}
use Rattle.term_recipes.proofs.Later.{beside_same, made_is, term_later, typed_same}
use Rattle.term_recipes.proofs.tested.add_tested.Goals as goal

pub add_beside-requires-clause-typed : goal.add_beside-requires-clause-typed
add_beside-requires-clause-typed c =
    let at = term_at c.args.types.now c.args.terms.now in
    let later = term_at c.add_unit.new.types c.add_unit.new.terms in
    let value = term_later c.args.types.now c.add_unit.new.types c.args.terms.now c.add_unit.new.terms c.args.value c.requires.stands c.in_ok-unit.ensures.grown c.in_ok-unit.ensures.kept c.requires.value in
    let test = term_later c.args.types.now c.add_unit.new.types c.args.terms.now c.add_unit.new.terms c.args.test c.requires.stands c.in_ok-unit.ensures.grown c.in_ok-unit.ensures.kept c.requires.test in
    let kind = kind_at c.args.types.now c.args.source in
    let same = beside_same (later c.args.value) (later c.in_ok-unit.unit) (later c.args.test) (at c.args.value) (unit kind) (at c.args.test) value c.in_ok-unit.ensures.ok.is test in
    let made = beside (later c.args.value) (later c.in_ok-unit.unit) (later c.args.test) in
    let wanted = tested_by (at c.args.value) kind (at c.args.test) in
    typed_same made wanted same c.requires.typed

pub returns-clause-ok : goal.returns-clause-ok
returns-clause-ok c =
    let at = term_at c.args.types.now c.args.terms.now in
    let later = term_at c.add_unit.new.types c.add_unit.new.terms in
    let value = term_later c.args.types.now c.add_unit.new.types c.args.terms.now c.add_unit.new.terms c.args.value c.requires.stands c.in_ok-unit.ensures.grown c.in_ok-unit.ensures.kept c.requires.value in
    let test = term_later c.args.types.now c.add_unit.new.types c.args.terms.now c.add_unit.new.terms c.args.test c.requires.stands c.in_ok-unit.ensures.grown c.in_ok-unit.ensures.kept c.requires.test in
    let kind = kind_at c.args.types.now c.args.source in
    let same = beside_same (later c.args.value) (later c.in_ok-unit.unit) (later c.args.test) (at c.args.value) (unit kind) (at c.args.test) value c.in_ok-unit.ensures.ok.is test in
    let made = beside (later c.args.value) (later c.in_ok-unit.unit) (later c.args.test) in
    let wanted = tested_by (at c.args.value) kind (at c.args.test) in
    made_is c.add_beside.new.types c.add_beside.new.terms c.add_beside.result made wanted same c.add_beside.ensures.ok
