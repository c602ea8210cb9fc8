-- Answers to the goals of `test_none`.
use Rattle.std.proofs.Common.{◌∙◌, ap}
use Rattle.hl_terms.specs.Translated.{none_tested}
use Rattle.type_table.proofs.Growth as types
use Rattle.type_table.specs.Kinds.{kind_at}
use Rattle.term_core.specs.Terms.{term_at}
use Rattle.term_builder.proofs.Turns.{one, then, done}
use Rattle.term_builder.specs.State.{state_of, Held}
use Rattle.term_builder.specs.Steps.{kind_of_core, with_made, test_none_last}
use Rattle.term_builder.proofs.builder.Builder.test_none.Goals as goal

pub returns : goal.returns
returns c =
    done (record { kinds = c.self.inside.types; rows = c.self.inside.terms; here = c.self.inside.here; outer = c.self.inside.outer; made = c.self.inside.made; kept = c.self.inside.kept.items }) c.self.invariant.0 c.id_of.new.self c.self.view_is c.self.inside.types (types.grown_self c.self.inside.types) c.add_none_tested.new.types c.add_none_tested.new.terms c.add_none_tested.ensures.grown c.add_none_tested.ensures.kept c.add_none_tested.ensures.stands (test_none_last (kind_at c.self.inside.types c.in_ok-item.item)) c.replace.new.self 1 c.in_ok-id.id _ c.replace.ensures c.in_ok-id.ensures.ok (ap (λ l. with_made l (state_of (then (record { kinds = c.self.inside.types; rows = c.self.inside.terms; here = c.self.inside.here; outer = c.self.inside.outer; made = c.self.inside.made; kept = c.self.inside.kept.items }) c.self.invariant.0 c.id_of.new.self c.self.view_is c.self.inside.types (types.grown_self c.self.inside.types)))) (one (term_at c.self.inside.types c.self.inside.terms) (λ t. none_tested (kind_at c.self.inside.types c.in_ok-item.item) t (state_of (then (record { kinds = c.self.inside.types; rows = c.self.inside.terms; here = c.self.inside.here; outer = c.self.inside.outer; made = c.self.inside.made; kept = c.self.inside.kept.items }) c.self.invariant.0 c.id_of.new.self c.self.view_is c.self.inside.types (types.grown_self c.self.inside.types))).here) c.self.inside.made c.top-value.result c.top-value.ensures)) ∙ (ap (λ k. test_none_last k (state_of c.id_of.new.self)) (ap (λ (h : Held). kind_at h.kinds c.in_ok-item.item) c.self.view_is ∙ c.in_ok-item.ensures.ok.is) ∙ ap (test_none_last (kind_of_core c.args.item)) c.in_ok-item.ensures.same)
