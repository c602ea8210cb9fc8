-- Answers to the goals of `failure`.
use Rattle.std.proofs.Common.{◌∙◌, refl, ap}
use Rattle.simplicity.specs.Types.{Kind}
use Rattle.simplicity.specs.Makes.{fail}
use Rattle.type_table.proofs.Growth as types
use Rattle.type_table.specs.Kinds.{kind_at}
use Rattle.term_builder.proofs.Turns.{on_ok, done}
use Rattle.term_builder.specs.State.{state_of, State, Held}
use Rattle.term_builder.specs.Steps.{kind_of_core, with_term}
use Rattle.term_builder.proofs.builder.Builder.failure.Goals as goal

pub returns : goal.returns
returns c =
    on_ok c.push.result (λ e. done (record { kinds = c.self.inside.types; rows = c.self.inside.terms; here = c.self.inside.here; outer = c.self.inside.outer; made = c.self.inside.made; kept = c.self.inside.kept.items }) c.self.invariant.0 c.id_of.new.self c.self.view_is c.self.inside.types (types.grown_self c.self.inside.types) c.self.inside.types c.add_fail.new.terms (types.grown_self c.self.inside.types) c.add_fail.ensures.kept c.add_fail.ensures.stands ((λ (k : Kind) (s : State). with_term (fail s.here k) s) (kind_at c.self.inside.types c.in_ok-kind.kind)) c.push.new.self 0 c.in_ok-id.id _ e c.in_ok-id.ensures.ok refl ∙ (ap (λ k. (λ (k : Kind) (s : State). with_term (fail s.here k) s) k (state_of c.id_of.new.self)) (ap (λ (h : Held). kind_at h.kinds c.in_ok-kind.kind) c.self.view_is ∙ c.in_ok-kind.ensures.ok.is) ∙ ap ((λ (k : Kind) (s : State). with_term (fail s.here k) s) (kind_of_core c.args.kind)) c.in_ok-kind.ensures.same)) c.push.ensures.ok
