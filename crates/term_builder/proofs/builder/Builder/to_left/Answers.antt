-- Answers to the goals of `to_left`.
use Rattle.std.proofs.Common.{◌∙◌, ap}
use Rattle.simplicity.specs.Makes.{to_left}
use Rattle.type_table.proofs.Growth as types
use Rattle.type_table.specs.Kinds.{kind_at}
use Rattle.term_core.specs.Terms.{term_at}
use Rattle.term_builder.proofs.Turns.{one, then, done}
use Rattle.term_builder.specs.State.{state_of, Held}
use Rattle.term_builder.specs.Steps.{kind_of_core, with_made, to_left_last}
use Rattle.term_builder.proofs.builder.Builder.to_left.Goals as goal

pub returns : goal.returns
returns c =
    done (record { kinds = c.self.inside.types; rows = c.self.inside.terms; here = c.self.inside.here; outer = c.self.inside.outer; made = c.self.inside.made; kept = c.self.inside.kept.items }) c.self.invariant.0 c.id_of.new.self c.self.view_is c.self.inside.types (types.grown_self c.self.inside.types) c.add_to_left.new.types c.add_to_left.new.terms c.add_to_left.ensures.grown c.add_to_left.ensures.kept c.add_to_left.ensures.stands (to_left_last (kind_at c.self.inside.types c.in_ok-other.other)) c.replace.new.self 1 c.in_ok-id.id _ c.replace.ensures c.in_ok-id.ensures.ok (ap (λ l. with_made l (state_of (then (record { kinds = c.self.inside.types; rows = c.self.inside.terms; here = c.self.inside.here; outer = c.self.inside.outer; made = c.self.inside.made; kept = c.self.inside.kept.items }) c.self.invariant.0 c.id_of.new.self c.self.view_is c.self.inside.types (types.grown_self c.self.inside.types)))) (one (term_at c.self.inside.types c.self.inside.terms) (λ t. to_left (kind_at c.self.inside.types c.in_ok-other.other) t) c.self.inside.made c.top-value.result c.top-value.ensures)) ∙ (ap (λ k. to_left_last k (state_of c.id_of.new.self)) (ap (λ (h : Held). kind_at h.kinds c.in_ok-other.other) c.self.view_is ∙ c.in_ok-other.ensures.ok.is) ∙ ap (to_left_last (kind_of_core c.args.other)) c.in_ok-other.ensures.same)
