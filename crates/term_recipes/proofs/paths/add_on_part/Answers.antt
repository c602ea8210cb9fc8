-- Answers to the goals of `add_on_part`: a term on the part of a type that a step leads to.
use Rattle.std.proofs.Common.{sym, ap, ◌∙◌}
use Rattle.layout_laws.specs.Scopes.{step_of}
use Rattle.simplicity.specs.Makes.{first_of, on_first, on_second, second_of}
use Rattle.type_table.specs.Kinds.{kind_at}
use Rattle.term_core.specs.Terms.{term_at}
use Rattle.term_core.proofs.Growth.{kept_self}
use Rattle.term_recipes.specs.Shapes.{on_part}
use Rattle.term_recipes.proofs.Later.{made_is, term_later}
use Rattle.term_recipes.proofs.paths.add_on_part.Goals as goal

pub returns-in-Take-clause-ok : goal.returns-in-Take-clause-ok
returns-in-Take-clause-ok c =
    let k = kind_at c.args.types.now c.args.source in
    let t = term_at c.args.types.now c.args.terms.now c.args.term in
    let later = term_at c.parts_of.new.types c.args.terms.now c.args.term in
    let other = kind_at c.parts_of.new.types c.in_ok-first.second in
    let stays = term_later c.args.types.now c.parts_of.new.types c.args.terms.now c.args.terms.now c.args.term c.requires.stands c.in_ok-first.ensures.grown (kept_self c.args.terms.now) c.requires.term in
    made_is c.add_on_first.new.types c.add_on_first.new.terms c.add_on_first.result (on_first other later) (on_part k (step_of c.args.step) t)
    (ap (λ b. on_first b later) c.in_ok-first.ensures.second.is ∙ ap (on_first (second_of k)) stays ∙ sym (ap (λ s. on_part k (step_of s) t) c.in-Take.is)) c.add_on_first.ensures.ok

pub returns-in-Drop-clause-ok : goal.returns-in-Drop-clause-ok
returns-in-Drop-clause-ok c =
    let k = kind_at c.args.types.now c.args.source in
    let t = term_at c.args.types.now c.args.terms.now c.args.term in
    let later = term_at c.parts_of.new.types c.args.terms.now c.args.term in
    let other = kind_at c.parts_of.new.types c.in_ok-first.first in
    let stays = term_later c.args.types.now c.parts_of.new.types c.args.terms.now c.args.terms.now c.args.term c.requires.stands c.in_ok-first.ensures.grown (kept_self c.args.terms.now) c.requires.term in
    made_is c.add_on_second.new.types c.add_on_second.new.terms c.add_on_second.result (on_second other later) (on_part k (step_of c.args.step) t)
    (ap (λ b. on_second b later) c.in_ok-first.ensures.first.is ∙ ap (on_second (first_of k)) stays ∙ sym (ap (λ s. on_part k (step_of s) t) c.in-Drop.is)) c.add_on_second.ensures.ok
