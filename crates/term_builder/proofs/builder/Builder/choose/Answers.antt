-- Answers to the goals of `choose`.
use Rattle.std.proofs.Common.{◌∙◌, sym, ap, subst}
use Rattle.type_table.proofs.Growth as types
use Rattle.type_table.specs.Kinds.{kind_at}
use Rattle.term_core.specs.Terms.{term_at}
use Rattle.term_recipes.specs.Shapes.{matched}
use Rattle.term_builder.proofs.Turns.{three, then, typed_by, held_after, held_done, done}
use Rattle.term_builder.specs.State.{state_of, State, Held}
use Rattle.term_builder.specs.Steps.{kind_of_core, IsLastTyped, with_made, match_last}
use Rattle.term_builder.proofs.builder.Builder.choose.Goals as goal

pub invariant_of-self : goal.invariant_of-self
invariant_of-self c =
    (held_after (record { kinds = c.self.inside.types; rows = c.self.inside.terms; here = c.self.inside.here; outer = c.self.inside.outer; made = c.self.inside.made; kept = c.self.inside.kept.items }) c.self.invariant.0 c.id_of-2.new.self c.self.view_is c.self.inside.types (types.grown_self c.self.inside.types) c.add_matched.new.types c.add_matched.new.terms c.add_matched.ensures.grown c.add_matched.ensures.kept c.add_matched.ensures.stands, c.self.invariant.1)

pub invariant_of-self-2 : goal.invariant_of-self-2
invariant_of-self-2 c =
    (held_done (record { kinds = c.self.inside.types; rows = c.self.inside.terms; here = c.self.inside.here; outer = c.self.inside.outer; made = c.self.inside.made; kept = c.self.inside.kept.items }) c.self.invariant.0 c.id_of-2.new.self c.self.view_is c.self.inside.types (types.grown_self c.self.inside.types) c.add_matched.new.types c.add_matched.new.terms c.add_matched.ensures.grown c.add_matched.ensures.kept c.add_matched.ensures.stands c.replace.new.self 3 c.in_ok-id.id c.replace.ensures c.in_ok-id.ensures.ok.within, c.self.invariant.1)

pub add_matched-requires-clause-typed : goal.add_matched-requires-clause-typed
add_matched-requires-clause-typed c =
    typed_by (record { kinds = c.self.inside.types; rows = c.self.inside.terms; here = c.self.inside.here; outer = c.self.inside.outer; made = c.self.inside.made; kept = c.self.inside.kept.items }) c.self.invariant.0 c.id_of-2.new.self c.self.view_is c.self.inside.types (types.grown_self c.self.inside.types) (match_last (kind_at c.self.inside.types c.in_ok-left.left) (kind_at c.self.inside.types c.in_ok-right.right)) 3 _ (ap (λ l. with_made l (state_of (then (record { kinds = c.self.inside.types; rows = c.self.inside.terms; here = c.self.inside.here; outer = c.self.inside.outer; made = c.self.inside.made; kept = c.self.inside.kept.items }) c.self.invariant.0 c.id_of-2.new.self c.self.view_is c.self.inside.types (types.grown_self c.self.inside.types)))) (three (term_at c.self.inside.types c.self.inside.terms) (λ value first second. matched value (kind_at c.self.inside.types c.in_ok-left.left) (kind_at c.self.inside.types c.in_ok-right.right) (state_of (then (record { kinds = c.self.inside.types; rows = c.self.inside.terms; here = c.self.inside.here; outer = c.self.inside.outer; made = c.self.inside.made; kept = c.self.inside.kept.items }) c.self.invariant.0 c.id_of-2.new.self c.self.view_is c.self.inside.types (types.grown_self c.self.inside.types))).here first second) c.self.inside.made c.below-value.result c.below-first.result c.top-second.result c.top-second.ensures c.below-first.ensures c.below-value.ensures)) (subst (λ (s : State). IsLastTyped s.made) (sym (ap (λ k. match_last k (kind_at c.self.inside.types c.in_ok-right.right) (state_of c.id_of-2.new.self)) (ap (λ (h : Held). kind_at h.kinds c.in_ok-left.left) c.self.view_is ∙ (types.means_grown _ _ c.in_ok-left.left _ c.in_ok-right.ensures.grown c.in_ok-left.ensures.ok).is) ∙ ap (λ k. match_last (kind_of_core c.args.left) k (state_of c.id_of-2.new.self)) (ap (λ (h : Held). kind_at h.kinds c.in_ok-right.right) c.self.view_is ∙ c.in_ok-right.ensures.ok.is) ∙ ap (match_last (kind_of_core c.args.left) (kind_of_core c.args.right)) (c.in_ok-right.ensures.same ∙ c.in_ok-left.ensures.same))) c.requires.makes.typed)

pub returns : goal.returns
returns c =
    done (record { kinds = c.self.inside.types; rows = c.self.inside.terms; here = c.self.inside.here; outer = c.self.inside.outer; made = c.self.inside.made; kept = c.self.inside.kept.items }) c.self.invariant.0 c.id_of-2.new.self c.self.view_is c.self.inside.types (types.grown_self c.self.inside.types) c.add_matched.new.types c.add_matched.new.terms c.add_matched.ensures.grown c.add_matched.ensures.kept c.add_matched.ensures.stands (match_last (kind_at c.self.inside.types c.in_ok-left.left) (kind_at c.self.inside.types c.in_ok-right.right)) c.replace.new.self 3 c.in_ok-id.id _ c.replace.ensures c.in_ok-id.ensures.ok (ap (λ l. with_made l (state_of (then (record { kinds = c.self.inside.types; rows = c.self.inside.terms; here = c.self.inside.here; outer = c.self.inside.outer; made = c.self.inside.made; kept = c.self.inside.kept.items }) c.self.invariant.0 c.id_of-2.new.self c.self.view_is c.self.inside.types (types.grown_self c.self.inside.types)))) (three (term_at c.self.inside.types c.self.inside.terms) (λ value first second. matched value (kind_at c.self.inside.types c.in_ok-left.left) (kind_at c.self.inside.types c.in_ok-right.right) (state_of (then (record { kinds = c.self.inside.types; rows = c.self.inside.terms; here = c.self.inside.here; outer = c.self.inside.outer; made = c.self.inside.made; kept = c.self.inside.kept.items }) c.self.invariant.0 c.id_of-2.new.self c.self.view_is c.self.inside.types (types.grown_self c.self.inside.types))).here first second) c.self.inside.made c.below-value.result c.below-first.result c.top-second.result c.top-second.ensures c.below-first.ensures c.below-value.ensures)) ∙ (ap (λ k. match_last k (kind_at c.self.inside.types c.in_ok-right.right) (state_of c.id_of-2.new.self)) (ap (λ (h : Held). kind_at h.kinds c.in_ok-left.left) c.self.view_is ∙ (types.means_grown _ _ c.in_ok-left.left _ c.in_ok-right.ensures.grown c.in_ok-left.ensures.ok).is) ∙ ap (λ k. match_last (kind_of_core c.args.left) k (state_of c.id_of-2.new.self)) (ap (λ (h : Held). kind_at h.kinds c.in_ok-right.right) c.self.view_is ∙ c.in_ok-right.ensures.ok.is) ∙ ap (match_last (kind_of_core c.args.left) (kind_of_core c.args.right)) (c.in_ok-right.ensures.same ∙ c.in_ok-left.ensures.same))
