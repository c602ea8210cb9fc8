-- Answers to the goals of `call`.
use Rattle.std.proofs.Common.{◌∙◌, sym, ap, subst}
use Rattle.simplicity.specs.Makes.{tuple, comp}
use Rattle.type_table.proofs.Growth as types
use Rattle.term_core.proofs.Growth.{kept_through}
use Rattle.term_core.specs.Terms.{MeansTerm}
use Rattle.simplicity.specs.Arrows.{IsTypedTerm}
use Rattle.term_core.specs.Terms.{term_at}
use Rattle.term_recipes.specs.Shapes.{terms_at}
use Rattle.term_builder.proofs.Turns.{held_either, place_within, kept_term, on_ok, many, then, typed_by, held_after, done}
use Rattle.term_builder.specs.State.{state_of}
use Rattle.term_builder.specs.Steps.{kept_at, with_made, call_last}
use Rattle.term_builder.proofs.builder.Builder.call.Goals as goal

pub add_tuple-requires-clause-typed : goal.add_tuple-requires-clause-typed
add_tuple-requires-clause-typed c =
    (typed_by (record { kinds = c.self.inside.types; rows = c.self.inside.terms; here = c.self.inside.here; outer = c.self.inside.outer; made = c.self.inside.made; kept = c.self.inside.kept.items }) c.self.invariant.0 c.args.self.now c.self.view_is c.self.inside.types (types.grown_self c.self.inside.types) (call_last c.args.place c.args.count) c.args.count (comp (tuple (state_of (then (record { kinds = c.self.inside.types; rows = c.self.inside.terms; here = c.self.inside.here; outer = c.self.inside.outer; made = c.self.inside.made; kept = c.self.inside.kept.items }) c.self.invariant.0 c.args.self.now c.self.view_is c.self.inside.types (types.grown_self c.self.inside.types))).here (terms_at c.self.inside.types c.self.inside.terms c.last-parts.result.now)) (kept_at (state_of (then (record { kinds = c.self.inside.types; rows = c.self.inside.terms; here = c.self.inside.here; outer = c.self.inside.outer; made = c.self.inside.made; kept = c.self.inside.kept.items }) c.self.invariant.0 c.args.self.now c.self.view_is c.self.inside.types (types.grown_self c.self.inside.types))).kept c.args.place)) (ap (λ l. with_made l (state_of (then (record { kinds = c.self.inside.types; rows = c.self.inside.terms; here = c.self.inside.here; outer = c.self.inside.outer; made = c.self.inside.made; kept = c.self.inside.kept.items }) c.self.invariant.0 c.args.self.now c.self.view_is c.self.inside.types (types.grown_self c.self.inside.types)))) (many (term_at c.self.inside.types c.self.inside.terms) (λ parts. comp (tuple (state_of (then (record { kinds = c.self.inside.types; rows = c.self.inside.terms; here = c.self.inside.here; outer = c.self.inside.outer; made = c.self.inside.made; kept = c.self.inside.kept.items }) c.self.invariant.0 c.args.self.now c.self.view_is c.self.inside.types (types.grown_self c.self.inside.types))).here parts) (kept_at (state_of (then (record { kinds = c.self.inside.types; rows = c.self.inside.terms; here = c.self.inside.here; outer = c.self.inside.outer; made = c.self.inside.made; kept = c.self.inside.kept.items }) c.self.invariant.0 c.args.self.now c.self.view_is c.self.inside.types (types.grown_self c.self.inside.types))).kept c.args.place)) c.self.inside.made c.args.count c.last-parts.result.now c.last-parts.ensures)) c.requires.makes.typed).1

pub add_called-requires-clause-typed : goal.add_called-requires-clause-typed
add_called-requires-clause-typed c =
    subst IsTypedTerm (sym (ap (λ x. comp x (term_at c.add_tuple.new.types c.add_tuple.new.terms c.index.result.now)) c.in_ok-arguments.ensures.ok.is ∙ ap (comp (tuple (state_of (then (record { kinds = c.self.inside.types; rows = c.self.inside.terms; here = c.self.inside.here; outer = c.self.inside.outer; made = c.self.inside.made; kept = c.self.inside.kept.items }) c.self.invariant.0 c.args.self.now c.self.view_is c.self.inside.types (types.grown_self c.self.inside.types))).here (terms_at c.self.inside.types c.self.inside.terms c.last-parts.result.now))) (kept_term (record { kinds = c.self.inside.types; rows = c.self.inside.terms; here = c.self.inside.here; outer = c.self.inside.outer; made = c.self.inside.made; kept = c.self.inside.kept.items }) c.self.invariant.0 c.add_tuple.new.types c.add_tuple.new.terms c.add_tuple.ensures.grown c.add_tuple.ensures.kept c.args.place c.index.result.now (place_within (record { kinds = c.self.inside.types; rows = c.self.inside.terms; here = c.self.inside.here; outer = c.self.inside.outer; made = c.self.inside.made; kept = c.self.inside.kept.items }) c.args.self.now c.self.view_is c.args.place c.requires.place) c.index.ensures))) (typed_by (record { kinds = c.self.inside.types; rows = c.self.inside.terms; here = c.self.inside.here; outer = c.self.inside.outer; made = c.self.inside.made; kept = c.self.inside.kept.items }) c.self.invariant.0 c.args.self.now c.self.view_is c.self.inside.types (types.grown_self c.self.inside.types) (call_last c.args.place c.args.count) c.args.count (comp (tuple (state_of (then (record { kinds = c.self.inside.types; rows = c.self.inside.terms; here = c.self.inside.here; outer = c.self.inside.outer; made = c.self.inside.made; kept = c.self.inside.kept.items }) c.self.invariant.0 c.args.self.now c.self.view_is c.self.inside.types (types.grown_self c.self.inside.types))).here (terms_at c.self.inside.types c.self.inside.terms c.last-parts.result.now)) (kept_at (state_of (then (record { kinds = c.self.inside.types; rows = c.self.inside.terms; here = c.self.inside.here; outer = c.self.inside.outer; made = c.self.inside.made; kept = c.self.inside.kept.items }) c.self.invariant.0 c.args.self.now c.self.view_is c.self.inside.types (types.grown_self c.self.inside.types))).kept c.args.place)) (ap (λ l. with_made l (state_of (then (record { kinds = c.self.inside.types; rows = c.self.inside.terms; here = c.self.inside.here; outer = c.self.inside.outer; made = c.self.inside.made; kept = c.self.inside.kept.items }) c.self.invariant.0 c.args.self.now c.self.view_is c.self.inside.types (types.grown_self c.self.inside.types)))) (many (term_at c.self.inside.types c.self.inside.terms) (λ parts. comp (tuple (state_of (then (record { kinds = c.self.inside.types; rows = c.self.inside.terms; here = c.self.inside.here; outer = c.self.inside.outer; made = c.self.inside.made; kept = c.self.inside.kept.items }) c.self.invariant.0 c.args.self.now c.self.view_is c.self.inside.types (types.grown_self c.self.inside.types))).here parts) (kept_at (state_of (then (record { kinds = c.self.inside.types; rows = c.self.inside.terms; here = c.self.inside.here; outer = c.self.inside.outer; made = c.self.inside.made; kept = c.self.inside.kept.items }) c.self.invariant.0 c.args.self.now c.self.view_is c.self.inside.types (types.grown_self c.self.inside.types))).kept c.args.place)) c.self.inside.made c.args.count c.last-parts.result.now c.last-parts.ensures)) c.requires.makes.typed)

pub invariant_of-self-in_err-id : goal.invariant_of-self-in_err-id
invariant_of-self-in_err-id c =
    (held_after (record { kinds = c.self.inside.types; rows = c.self.inside.terms; here = c.self.inside.here; outer = c.self.inside.outer; made = c.self.inside.made; kept = c.self.inside.kept.items }) c.self.invariant.0 c.args.self.now c.self.view_is c.self.inside.types (types.grown_self c.self.inside.types) c.add_tuple.new.types c.add_called.new.terms c.add_tuple.ensures.grown (kept_through c.self.inside.terms c.add_tuple.new.terms c.add_called.new.terms c.add_tuple.ensures.kept c.add_called.ensures.kept) c.add_called.ensures.stands, c.self.invariant.1)

pub invariant_of-self-2 : goal.invariant_of-self-2
invariant_of-self-2 c =
    (held_either (record { kinds = c.self.inside.types; rows = c.self.inside.terms; here = c.self.inside.here; outer = c.self.inside.outer; made = c.self.inside.made; kept = c.self.inside.kept.items }) c.self.invariant.0 c.add_tuple.new.types c.add_called.new.terms c.add_tuple.ensures.grown (kept_through c.self.inside.terms c.add_tuple.new.terms c.add_called.new.terms c.add_tuple.ensures.kept c.add_called.ensures.kept) c.add_called.ensures.stands c.put.result c.put.new.self c.args.count c.in_ok-id.id c.in_ok-id.ensures.ok.within c.put.ensures.ok c.put.ensures.err, c.self.invariant.1)

pub returns : goal.returns
returns c =
    on_ok c.put.result (λ p. done (record { kinds = c.self.inside.types; rows = c.self.inside.terms; here = c.self.inside.here; outer = c.self.inside.outer; made = c.self.inside.made; kept = c.self.inside.kept.items }) c.self.invariant.0 c.args.self.now c.self.view_is c.self.inside.types (types.grown_self c.self.inside.types) c.add_tuple.new.types c.add_called.new.terms c.add_tuple.ensures.grown (kept_through c.self.inside.terms c.add_tuple.new.terms c.add_called.new.terms c.add_tuple.ensures.kept c.add_called.ensures.kept) c.add_called.ensures.stands (call_last c.args.place c.args.count) c.put.new.self c.args.count c.in_ok-id.id (comp (tuple (state_of (then (record { kinds = c.self.inside.types; rows = c.self.inside.terms; here = c.self.inside.here; outer = c.self.inside.outer; made = c.self.inside.made; kept = c.self.inside.kept.items }) c.self.invariant.0 c.args.self.now c.self.view_is c.self.inside.types (types.grown_self c.self.inside.types))).here (terms_at c.self.inside.types c.self.inside.terms c.last-parts.result.now)) (kept_at (state_of (then (record { kinds = c.self.inside.types; rows = c.self.inside.terms; here = c.self.inside.here; outer = c.self.inside.outer; made = c.self.inside.made; kept = c.self.inside.kept.items }) c.self.invariant.0 c.args.self.now c.self.view_is c.self.inside.types (types.grown_self c.self.inside.types))).kept c.args.place)) p (subst (MeansTerm c.add_tuple.new.types c.add_called.new.terms c.in_ok-id.id) (ap (λ x. comp x (term_at c.add_tuple.new.types c.add_tuple.new.terms c.index.result.now)) c.in_ok-arguments.ensures.ok.is ∙ ap (comp (tuple (state_of (then (record { kinds = c.self.inside.types; rows = c.self.inside.terms; here = c.self.inside.here; outer = c.self.inside.outer; made = c.self.inside.made; kept = c.self.inside.kept.items }) c.self.invariant.0 c.args.self.now c.self.view_is c.self.inside.types (types.grown_self c.self.inside.types))).here (terms_at c.self.inside.types c.self.inside.terms c.last-parts.result.now))) (kept_term (record { kinds = c.self.inside.types; rows = c.self.inside.terms; here = c.self.inside.here; outer = c.self.inside.outer; made = c.self.inside.made; kept = c.self.inside.kept.items }) c.self.invariant.0 c.add_tuple.new.types c.add_tuple.new.terms c.add_tuple.ensures.grown c.add_tuple.ensures.kept c.args.place c.index.result.now (place_within (record { kinds = c.self.inside.types; rows = c.self.inside.terms; here = c.self.inside.here; outer = c.self.inside.outer; made = c.self.inside.made; kept = c.self.inside.kept.items }) c.args.self.now c.self.view_is c.args.place c.requires.place) c.index.ensures)) c.in_ok-id.ensures.ok) (ap (λ l. with_made l (state_of (then (record { kinds = c.self.inside.types; rows = c.self.inside.terms; here = c.self.inside.here; outer = c.self.inside.outer; made = c.self.inside.made; kept = c.self.inside.kept.items }) c.self.invariant.0 c.args.self.now c.self.view_is c.self.inside.types (types.grown_self c.self.inside.types)))) (many (term_at c.self.inside.types c.self.inside.terms) (λ parts. comp (tuple (state_of (then (record { kinds = c.self.inside.types; rows = c.self.inside.terms; here = c.self.inside.here; outer = c.self.inside.outer; made = c.self.inside.made; kept = c.self.inside.kept.items }) c.self.invariant.0 c.args.self.now c.self.view_is c.self.inside.types (types.grown_self c.self.inside.types))).here parts) (kept_at (state_of (then (record { kinds = c.self.inside.types; rows = c.self.inside.terms; here = c.self.inside.here; outer = c.self.inside.outer; made = c.self.inside.made; kept = c.self.inside.kept.items }) c.self.invariant.0 c.args.self.now c.self.view_is c.self.inside.types (types.grown_self c.self.inside.types))).kept c.args.place)) c.self.inside.made c.args.count c.last-parts.result.now c.last-parts.ensures))) c.put.ensures.ok
