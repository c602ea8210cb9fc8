-- Answers to the goals of `add_along`: a term on the part of a type that steps lead to.
use Rattle.std.proofs.Common.{◌/◌, length, map, sym, ap, ◌∙◌}
use Rattle.layout_laws.specs.Scopes.{step_of}
use Rattle.type_table.specs.Kinds.{kind_at}
use Rattle.type_table.proofs.Growth.{grown_through}
use Rattle.term_core.specs.Terms.{term_at}
use Rattle.term_core.proofs.Growth.{kept_self}
use Rattle.term_recipes.specs.Shapes.{along}
use Rattle.term_recipes.proofs.Along.{along_halves}
use Rattle.term_recipes.proofs.Later.{kind_later, made_is, term_later}
use Rattle.term_recipes.proofs.paths.+add_along.Goals as goal

pub returns-clause-ok : goal.returns-clause-ok
returns-clause-ok t c =
    let k = kind_at c.args.types.now c.args.source in
    let e = kind_at c.type_at_end.new.types c.in_ok-middle.middle in
    let part = term_at c.args.types.now c.args.terms.now c.args.term in
    let later = term_at c.type_at_end.new.types c.args.terms.now c.args.term in
    let inner = term_at c.add_along.new.types c.add_along.new.terms c.in_ok-inner.inner in
    let front = map step_of c.split_at.result.0.now in
    let back = map step_of c.split_at.result.1.now in
    let grown = grown_through c.args.types.now c.type_at_end.new.types c.add_along.new.types c.in_ok-middle.ensures.grown c.in_ok-inner.ensures.grown in
    let source = kind_later c.args.types.now c.add_along.new.types c.args.source grown c.requires.source in
    let stays = term_later c.args.types.now c.type_at_end.new.types c.args.terms.now c.args.terms.now c.args.term c.requires.stands c.in_ok-middle.ensures.grown (kept_self c.args.terms.now) c.requires.term in
    made_is c.add_along-2.new.types c.add_along-2.new.terms c.add_along-2.result (along (kind_at c.add_along.new.types c.args.source) front inner) (along k (map step_of c.args.steps.now) part)
    (ap (λ j. along j front inner) source ∙ ap (along k front) (c.in_ok-inner.ensures.ok.is ∙ ap (along e back) stays)
    ∙ sym (along_halves k e c.args.steps.now c.split_at.result.0.now c.split_at.result.1.now (length c.args.steps.now / 2) part c.split_at.ensures.front c.split_at.ensures.back c.in_ok-middle.ensures.ok.is)) c.add_along-2.ensures.ok
