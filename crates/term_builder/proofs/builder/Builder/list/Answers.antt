-- Answers to the goals of `list`.
use Rattle.std.proofs.Common.{◌∙◌, sym, ap, subst}
use Rattle.hl_terms.specs.Translated.{list_term}
use Rattle.simplicity.specs.Types.{Kind}
use Rattle.type_table.proofs.Growth as types
use Rattle.simplicityhl.specs.Kinds.{bound_level}
use Rattle.type_table.specs.Kinds.{kind_at}
use Rattle.term_core.specs.Terms.{term_at}
use Rattle.term_builder.proofs.Turns.{held_either, on_ok, many, then, typed_by, held_after, done}
use Rattle.term_builder.specs.State.{state_of, State, Held}
use Rattle.term_builder.specs.Steps.{kind_of_core, IsLastTyped, with_made, list_last}
use Rattle.term_builder.proofs.builder.Builder.list.Goals as goal

pub invariant_of-self : goal.invariant_of-self
invariant_of-self c =
    (held_after (record { kinds = c.self.inside.types; rows = c.self.inside.terms; here = c.self.inside.here; outer = c.self.inside.outer; made = c.self.inside.made; kept = c.self.inside.kept.items }) c.self.invariant.0 c.id_of.new.self c.self.view_is c.self.inside.types (types.grown_self c.self.inside.types) c.add_list.new.types c.add_list.new.terms c.add_list.ensures.grown c.add_list.ensures.kept c.add_list.ensures.stands, c.self.invariant.1)

pub add_list-requires-clause-typed : goal.add_list-requires-clause-typed
add_list-requires-clause-typed c =
    typed_by (record { kinds = c.self.inside.types; rows = c.self.inside.terms; here = c.self.inside.here; outer = c.self.inside.outer; made = c.self.inside.made; kept = c.self.inside.kept.items }) c.self.invariant.0 c.id_of.new.self c.self.view_is c.self.inside.types (types.grown_self c.self.inside.types) ((λ (k : Kind) (s : State). list_last k c.args.bound c.args.count s) (kind_at c.self.inside.types c.in_ok-item.item)) c.args.count _ (ap (λ l. with_made l (state_of (then (record { kinds = c.self.inside.types; rows = c.self.inside.terms; here = c.self.inside.here; outer = c.self.inside.outer; made = c.self.inside.made; kept = c.self.inside.kept.items }) c.self.invariant.0 c.id_of.new.self c.self.view_is c.self.inside.types (types.grown_self c.self.inside.types)))) (many (term_at c.self.inside.types c.self.inside.terms) (list_term (state_of (then (record { kinds = c.self.inside.types; rows = c.self.inside.terms; here = c.self.inside.here; outer = c.self.inside.outer; made = c.self.inside.made; kept = c.self.inside.kept.items }) c.self.invariant.0 c.id_of.new.self c.self.view_is c.self.inside.types (types.grown_self c.self.inside.types))).here (kind_at c.self.inside.types c.in_ok-item.item) (bound_level c.args.bound)) c.self.inside.made c.args.count c.last-items.result.now c.last-items.ensures)) (subst (λ (s : State). IsLastTyped s.made) (sym (ap (λ k. (λ (k : Kind) (s : State). list_last k c.args.bound c.args.count s) k (state_of c.id_of.new.self)) (ap (λ (h : Held). kind_at h.kinds c.in_ok-item.item) c.self.view_is ∙ c.in_ok-item.ensures.ok.is) ∙ ap ((λ (k : Kind) (s : State). list_last k c.args.bound c.args.count s) (kind_of_core c.args.item)) c.in_ok-item.ensures.same)) c.requires.makes.typed)

pub invariant_of-self-2 : goal.invariant_of-self-2
invariant_of-self-2 c =
    (held_either (record { kinds = c.self.inside.types; rows = c.self.inside.terms; here = c.self.inside.here; outer = c.self.inside.outer; made = c.self.inside.made; kept = c.self.inside.kept.items }) c.self.invariant.0 c.add_list.new.types c.add_list.new.terms c.add_list.ensures.grown c.add_list.ensures.kept c.add_list.ensures.stands c.put.result c.put.new.self c.args.count c.in_ok-id.id c.in_ok-id.ensures.ok.within c.put.ensures.ok c.put.ensures.err, c.self.invariant.1)

pub returns : goal.returns
returns c =
    on_ok c.put.result (λ p. done (record { kinds = c.self.inside.types; rows = c.self.inside.terms; here = c.self.inside.here; outer = c.self.inside.outer; made = c.self.inside.made; kept = c.self.inside.kept.items }) c.self.invariant.0 c.id_of.new.self c.self.view_is c.self.inside.types (types.grown_self c.self.inside.types) c.add_list.new.types c.add_list.new.terms c.add_list.ensures.grown c.add_list.ensures.kept c.add_list.ensures.stands ((λ (k : Kind) (s : State). list_last k c.args.bound c.args.count s) (kind_at c.self.inside.types c.in_ok-item.item)) c.put.new.self c.args.count c.in_ok-id.id _ p c.in_ok-id.ensures.ok (ap (λ l. with_made l (state_of (then (record { kinds = c.self.inside.types; rows = c.self.inside.terms; here = c.self.inside.here; outer = c.self.inside.outer; made = c.self.inside.made; kept = c.self.inside.kept.items }) c.self.invariant.0 c.id_of.new.self c.self.view_is c.self.inside.types (types.grown_self c.self.inside.types)))) (many (term_at c.self.inside.types c.self.inside.terms) (list_term (state_of (then (record { kinds = c.self.inside.types; rows = c.self.inside.terms; here = c.self.inside.here; outer = c.self.inside.outer; made = c.self.inside.made; kept = c.self.inside.kept.items }) c.self.invariant.0 c.id_of.new.self c.self.view_is c.self.inside.types (types.grown_self c.self.inside.types))).here (kind_at c.self.inside.types c.in_ok-item.item) (bound_level c.args.bound)) c.self.inside.made c.args.count c.last-items.result.now c.last-items.ensures)) ∙ (ap (λ k. (λ (k : Kind) (s : State). list_last k c.args.bound c.args.count s) k (state_of c.id_of.new.self)) (ap (λ (h : Held). kind_at h.kinds c.in_ok-item.item) c.self.view_is ∙ c.in_ok-item.ensures.ok.is) ∙ ap ((λ (k : Kind) (s : State). list_last k c.args.bound c.args.count s) (kind_of_core c.args.item)) c.in_ok-item.ensures.same)) c.put.ensures.ok
