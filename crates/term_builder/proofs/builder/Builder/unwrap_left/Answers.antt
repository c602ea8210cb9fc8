-- Answers to the goals of `unwrap_left`.
use Rattle.std.proofs.Common.{◌∙◌, ap}
use Rattle.hl_terms.specs.Translated.{unwrapped_left}
use Rattle.type_table.proofs.Growth as types
use Rattle.type_table.specs.Kinds.{kind_at}
use Rattle.term_core.specs.Terms.{term_at}
use Rattle.term_builder.proofs.Turns.{one, then, held_after, held_done, done}
use Rattle.term_builder.specs.State.{state_of, Held}
use Rattle.term_builder.specs.Steps.{kind_of_core, with_made, unwrap_left_last}
use Rattle.term_builder.proofs.builder.Builder.unwrap_left.Goals as goal

pub invariant_of-self : goal.invariant_of-self
invariant_of-self c =
    (held_after (record { kinds = c.self.inside.types; rows = c.self.inside.terms; here = c.self.inside.here; outer = c.self.inside.outer; made = c.self.inside.made; kept = c.self.inside.kept.items }) c.self.invariant.0 c.id_of-2.new.self c.self.view_is c.self.inside.types (types.grown_self c.self.inside.types) c.add_unwrapped_left.new.types c.add_unwrapped_left.new.terms c.add_unwrapped_left.ensures.grown c.add_unwrapped_left.ensures.kept c.add_unwrapped_left.ensures.stands, c.self.invariant.1)

pub invariant_of-self-2 : goal.invariant_of-self-2
invariant_of-self-2 c =
    (held_done (record { kinds = c.self.inside.types; rows = c.self.inside.terms; here = c.self.inside.here; outer = c.self.inside.outer; made = c.self.inside.made; kept = c.self.inside.kept.items }) c.self.invariant.0 c.id_of-2.new.self c.self.view_is c.self.inside.types (types.grown_self c.self.inside.types) c.add_unwrapped_left.new.types c.add_unwrapped_left.new.terms c.add_unwrapped_left.ensures.grown c.add_unwrapped_left.ensures.kept c.add_unwrapped_left.ensures.stands c.replace.new.self 1 c.in_ok-id.id c.replace.ensures c.in_ok-id.ensures.ok.within, c.self.invariant.1)

pub returns : goal.returns
returns c =
    done (record { kinds = c.self.inside.types; rows = c.self.inside.terms; here = c.self.inside.here; outer = c.self.inside.outer; made = c.self.inside.made; kept = c.self.inside.kept.items }) c.self.invariant.0 c.id_of-2.new.self c.self.view_is c.self.inside.types (types.grown_self c.self.inside.types) c.add_unwrapped_left.new.types c.add_unwrapped_left.new.terms c.add_unwrapped_left.ensures.grown c.add_unwrapped_left.ensures.kept c.add_unwrapped_left.ensures.stands (unwrap_left_last (kind_at c.self.inside.types c.in_ok-left.left) (kind_at c.self.inside.types c.in_ok-right.right)) c.replace.new.self 1 c.in_ok-id.id _ c.replace.ensures c.in_ok-id.ensures.ok (ap (λ l. with_made l (state_of (then (record { kinds = c.self.inside.types; rows = c.self.inside.terms; here = c.self.inside.here; outer = c.self.inside.outer; made = c.self.inside.made; kept = c.self.inside.kept.items }) c.self.invariant.0 c.id_of-2.new.self c.self.view_is c.self.inside.types (types.grown_self c.self.inside.types)))) (one (term_at c.self.inside.types c.self.inside.terms) (λ t. unwrapped_left (kind_at c.self.inside.types c.in_ok-left.left) (kind_at c.self.inside.types c.in_ok-right.right) t (state_of (then (record { kinds = c.self.inside.types; rows = c.self.inside.terms; here = c.self.inside.here; outer = c.self.inside.outer; made = c.self.inside.made; kept = c.self.inside.kept.items }) c.self.invariant.0 c.id_of-2.new.self c.self.view_is c.self.inside.types (types.grown_self c.self.inside.types))).here) c.self.inside.made c.top-value.result c.top-value.ensures)) ∙ (ap (λ k. unwrap_left_last k (kind_at c.self.inside.types c.in_ok-right.right) (state_of c.id_of-2.new.self)) (ap (λ (h : Held). kind_at h.kinds c.in_ok-left.left) c.self.view_is ∙ (types.means_grown _ _ c.in_ok-left.left _ c.in_ok-right.ensures.grown c.in_ok-left.ensures.ok).is) ∙ ap (λ k. unwrap_left_last (kind_of_core c.args.left) k (state_of c.id_of-2.new.self)) (ap (λ (h : Held). kind_at h.kinds c.in_ok-right.right) c.self.view_is ∙ c.in_ok-right.ensures.ok.is) ∙ ap (unwrap_left_last (kind_of_core c.args.left) (kind_of_core c.args.right)) (c.in_ok-right.ensures.same ∙ c.in_ok-left.ensures.same))
