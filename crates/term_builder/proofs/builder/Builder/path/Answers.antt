-- Answers to the goals of `path`.
use Rattle.std.proofs.Common.{refl, map}
use Rattle.hl_terms.specs.Paths.{path_term}
use Rattle.layout_laws.specs.Scopes.{step_of}
use Rattle.type_table.proofs.Growth as types
use Rattle.term_builder.proofs.Turns.{on_ok, then, done}
use Rattle.term_builder.specs.State.{state_of, State}
use Rattle.term_builder.specs.Steps.{with_term}
use Rattle.term_builder.proofs.builder.Builder.path.Goals as goal

pub returns : goal.returns
returns c =
    on_ok c.push.result (λ e. done (record { kinds = c.self.inside.types; rows = c.self.inside.terms; here = c.self.inside.here; outer = c.self.inside.outer; made = c.self.inside.made; kept = c.self.inside.kept.items }) c.self.invariant.0 c.args.self.now c.self.view_is c.self.inside.types (types.grown_self c.self.inside.types) c.add_path.new.types c.add_path.new.terms c.add_path.ensures.grown c.add_path.ensures.kept c.add_path.ensures.stands (λ (s : State). with_term (path_term s.here (map step_of c.args.path.now)) s) c.push.new.self 0 c.in_ok-id.id (path_term (state_of (then (record { kinds = c.self.inside.types; rows = c.self.inside.terms; here = c.self.inside.here; outer = c.self.inside.outer; made = c.self.inside.made; kept = c.self.inside.kept.items }) c.self.invariant.0 c.args.self.now c.self.view_is c.self.inside.types (types.grown_self c.self.inside.types))).here (map step_of c.args.path.now)) e c.in_ok-id.ensures.ok refl) c.push.ensures.ok
