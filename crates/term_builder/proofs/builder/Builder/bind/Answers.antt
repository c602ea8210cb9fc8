-- Answers to the goals of `bind`.
use Rattle.std.proofs.Common.{ap}
use Rattle.type_table.proofs.Growth as types
use Rattle.term_core.specs.Terms.{term_at}
use Rattle.term_recipes.specs.Shapes.{bound_in}
use Rattle.term_builder.proofs.Turns.{two, then, typed_by, held_done, done}
use Rattle.term_builder.specs.State.{state_of}
use Rattle.term_builder.specs.Steps.{with_made, bind_last}
use Rattle.term_builder.proofs.builder.Builder.bind.Goals as goal

pub returns : goal.returns
returns c =
    done (record { kinds = c.self.inside.types; rows = c.self.inside.terms; here = c.self.inside.here; outer = c.self.inside.outer; made = c.self.inside.made; kept = c.self.inside.kept.items }) c.self.invariant.0 c.args.self.now c.self.view_is c.self.inside.types (types.grown_self c.self.inside.types) c.add_bound.new.types c.add_bound.new.terms c.add_bound.ensures.grown c.add_bound.ensures.kept c.add_bound.ensures.stands bind_last c.replace.new.self 2 c.in_ok-id.id _ c.replace.ensures c.in_ok-id.ensures.ok (ap (λ l. with_made l (state_of (then (record { kinds = c.self.inside.types; rows = c.self.inside.terms; here = c.self.inside.here; outer = c.self.inside.outer; made = c.self.inside.made; kept = c.self.inside.kept.items }) c.self.invariant.0 c.args.self.now c.self.view_is c.self.inside.types (types.grown_self c.self.inside.types)))) (two (term_at c.self.inside.types c.self.inside.terms) (λ value rest. bound_in value (state_of (then (record { kinds = c.self.inside.types; rows = c.self.inside.terms; here = c.self.inside.here; outer = c.self.inside.outer; made = c.self.inside.made; kept = c.self.inside.kept.items }) c.self.invariant.0 c.args.self.now c.self.view_is c.self.inside.types (types.grown_self c.self.inside.types))).here rest) c.self.inside.made c.below-value.result c.top-rest.result c.top-rest.ensures c.below-value.ensures))

pub add_bound-requires-clause-typed : goal.add_bound-requires-clause-typed
add_bound-requires-clause-typed c =
    typed_by (record { kinds = c.self.inside.types; rows = c.self.inside.terms; here = c.self.inside.here; outer = c.self.inside.outer; made = c.self.inside.made; kept = c.self.inside.kept.items }) c.self.invariant.0 c.args.self.now c.self.view_is c.self.inside.types (types.grown_self c.self.inside.types) bind_last 2 _ (ap (λ l. with_made l (state_of (then (record { kinds = c.self.inside.types; rows = c.self.inside.terms; here = c.self.inside.here; outer = c.self.inside.outer; made = c.self.inside.made; kept = c.self.inside.kept.items }) c.self.invariant.0 c.args.self.now c.self.view_is c.self.inside.types (types.grown_self c.self.inside.types)))) (two (term_at c.self.inside.types c.self.inside.terms) (λ value rest. bound_in value (state_of (then (record { kinds = c.self.inside.types; rows = c.self.inside.terms; here = c.self.inside.here; outer = c.self.inside.outer; made = c.self.inside.made; kept = c.self.inside.kept.items }) c.self.invariant.0 c.args.self.now c.self.view_is c.self.inside.types (types.grown_self c.self.inside.types))).here rest) c.self.inside.made c.below-value.result c.top-rest.result c.top-rest.ensures c.below-value.ensures)) c.requires.makes.typed

pub invariant_of-self-2 : goal.invariant_of-self-2
invariant_of-self-2 c =
    (held_done (record { kinds = c.self.inside.types; rows = c.self.inside.terms; here = c.self.inside.here; outer = c.self.inside.outer; made = c.self.inside.made; kept = c.self.inside.kept.items }) c.self.invariant.0 c.args.self.now c.self.view_is c.self.inside.types (types.grown_self c.self.inside.types) c.add_bound.new.types c.add_bound.new.terms c.add_bound.ensures.grown c.add_bound.ensures.kept c.add_bound.ensures.stands c.replace.new.self 2 c.in_ok-id.id c.replace.ensures c.in_ok-id.ensures.ok.within, c.self.invariant.1)
