-- Answers to the goals of `truth`.
use Rattle.std.proofs.Common.{refl}
use Rattle.hl_terms.specs.Translated.{true_term}
use Rattle.type_table.proofs.Growth as types
use Rattle.term_builder.proofs.Turns.{on_ok, then, done}
use Rattle.term_builder.specs.State.{state_of, State}
use Rattle.term_builder.specs.Steps.{with_term}
use Rattle.term_builder.proofs.builder.Builder.truth.Goals as goal

pub returns : goal.returns
returns c =
    on_ok c.push.result (λ e. done (record { kinds = c.self.inside.types; rows = c.self.inside.terms; here = c.self.inside.here; outer = c.self.inside.outer; made = c.self.inside.made; kept = c.self.inside.kept.items }) c.self.invariant.0 c.args.self.now c.self.view_is c.self.inside.types (types.grown_self c.self.inside.types) c.add_true.new.types c.add_true.new.terms c.add_true.ensures.grown c.add_true.ensures.kept c.add_true.ensures.stands (λ (s : State). with_term (true_term s.here) s) c.push.new.self 0 c.in_ok-id.id (true_term (state_of (then (record { kinds = c.self.inside.types; rows = c.self.inside.terms; here = c.self.inside.here; outer = c.self.inside.outer; made = c.self.inside.made; kept = c.self.inside.kept.items }) c.self.invariant.0 c.args.self.now c.self.view_is c.self.inside.types (types.grown_self c.self.inside.types))).here) e c.in_ok-id.ensures.ok refl) c.push.ensures.ok
