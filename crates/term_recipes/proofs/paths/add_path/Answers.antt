-- Answers to the goals of `add_path`: the term of a path from a type.
use Rattle.std.proofs.Common.{map, sym, ap, ◌∙◌}
use Rattle.hl_terms.specs.Paths.{path_term}
use Rattle.layout_laws.specs.Scopes.{step_of}
use Rattle.simplicity.specs.Makes.{iden}
use Rattle.type_table.specs.Kinds.{kind_at}
use Rattle.term_core.specs.Terms.{term_at}
use Rattle.term_recipes.specs.Shapes.{along, end_of}
use Rattle.term_recipes.proofs.Along.{path_is}
use Rattle.term_recipes.proofs.Later.{kind_later, made_is}
use Rattle.term_recipes.proofs.paths.add_path.Goals as goal

pub returns-clause-ok : goal.returns-clause-ok
returns-clause-ok c =
    let k = kind_at c.args.types.now c.args.source in
    let here = term_at c.type_at_end.new.types c.add_iden.new.terms c.in_ok-here.here in
    let first = map step_of c.as_slice.result.now in
    let steps = map step_of c.as_slice-2.result.now in
    let path = map step_of c.args.path.now in
    let source = kind_later c.args.types.now c.type_at_end.new.types c.args.source c.in_ok-end.ensures.grown c.requires.source in
    let end = c.in_ok-end.ensures.ok.is ∙ ap (λ l. end_of k (map step_of l)) c.as_slice.ensures in
    made_is c.add_along.new.types c.add_along.new.terms c.add_along.result (along (kind_at c.type_at_end.new.types c.args.source) steps here) (path_term k path)
    (ap (λ j. along j steps here) source ∙ ap (λ l. along k (map step_of l) here) c.as_slice-2.ensures ∙ ap (along k path) (c.in_ok-here.ensures.ok.is ∙ ap iden end) ∙ sym (path_is k path)) c.add_along.ensures.ok
