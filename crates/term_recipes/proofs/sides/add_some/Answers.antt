-- Answers to the goals of `add_some`: `Some` of what a term gives.
use Rattle.std.proofs.Common.{◌≡◌, ap, ◌∙◌}
use Rattle.simplicity.specs.Makes.{to_right}
use Rattle.simplicity.specs.Types.{One}
use Rattle.type_table.specs.Kinds.{kind_at}
use Rattle.term_core.specs.Terms.{term_at}
use Rattle.term_core.proofs.Growth.{kept_self}
use Rattle.term_recipes.proofs.Later.{made_is, term_later}
use Rattle.term_recipes.proofs.sides.add_some.Goals as goal

pub returns-clause-ok : goal.returns-clause-ok
returns-clause-ok c =
    let later = term_at c.unit.new.self c.args.terms.now c.args.part in
    let part = term_at c.args.types.now c.args.terms.now c.args.part in
    let stays = term_later c.args.types.now c.unit.new.self c.args.terms.now c.args.terms.now c.args.part c.requires.stands c.in_ok-one.ensures.grown (kept_self c.args.terms.now) c.requires.part in
    let same : to_right (kind_at c.unit.new.self c.in_ok-one.one) later ≡ to_right One part = ap (λ k. to_right k later) c.in_ok-one.ensures.ok.is ∙ ap (to_right One) stays in
    made_is c.add_to_right.new.types c.add_to_right.new.terms c.add_to_right.result (to_right (kind_at c.unit.new.self c.in_ok-one.one) later) (to_right One part) same c.add_to_right.ensures.ok
