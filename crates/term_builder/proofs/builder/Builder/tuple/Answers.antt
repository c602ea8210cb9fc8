-- Answers to the goals of `tuple`.
use Rattle.std.proofs.Common.{ap}
use Rattle.simplicity.specs.Makes.{tuple}
use Rattle.type_table.proofs.Growth as types
use Rattle.term_core.specs.Terms.{term_at}
use Rattle.term_builder.proofs.Turns.{on_ok, many, then, typed_by, done}
use Rattle.term_builder.specs.State.{state_of}
use Rattle.term_builder.specs.Steps.{with_made, tuple_last}
use Rattle.term_builder.proofs.builder.Builder.tuple.Goals as goal

pub add_tuple-requires-clause-typed : goal.add_tuple-requires-clause-typed
add_tuple-requires-clause-typed c =
    typed_by (record { kinds = c.self.inside.types; rows = c.self.inside.terms; here = c.self.inside.here; outer = c.self.inside.outer; made = c.self.inside.made; kept = c.self.inside.kept.items }) c.self.invariant.0 c.args.self.now c.self.view_is c.self.inside.types (types.grown_self c.self.inside.types) (tuple_last c.args.count) c.args.count _ (ap (λ l. with_made l (state_of (then (record { kinds = c.self.inside.types; rows = c.self.inside.terms; here = c.self.inside.here; outer = c.self.inside.outer; made = c.self.inside.made; kept = c.self.inside.kept.items }) c.self.invariant.0 c.args.self.now c.self.view_is c.self.inside.types (types.grown_self c.self.inside.types)))) (many (term_at c.self.inside.types c.self.inside.terms) (tuple (state_of (then (record { kinds = c.self.inside.types; rows = c.self.inside.terms; here = c.self.inside.here; outer = c.self.inside.outer; made = c.self.inside.made; kept = c.self.inside.kept.items }) c.self.invariant.0 c.args.self.now c.self.view_is c.self.inside.types (types.grown_self c.self.inside.types))).here) c.self.inside.made c.args.count c.last-parts.result.now c.last-parts.ensures)) c.requires.makes.typed

pub returns : goal.returns
returns c =
    on_ok c.put.result (λ p. done (record { kinds = c.self.inside.types; rows = c.self.inside.terms; here = c.self.inside.here; outer = c.self.inside.outer; made = c.self.inside.made; kept = c.self.inside.kept.items }) c.self.invariant.0 c.args.self.now c.self.view_is c.self.inside.types (types.grown_self c.self.inside.types) c.add_tuple.new.types c.add_tuple.new.terms c.add_tuple.ensures.grown c.add_tuple.ensures.kept c.add_tuple.ensures.stands (tuple_last c.args.count) c.put.new.self c.args.count c.in_ok-id.id _ p c.in_ok-id.ensures.ok (ap (λ l. with_made l (state_of (then (record { kinds = c.self.inside.types; rows = c.self.inside.terms; here = c.self.inside.here; outer = c.self.inside.outer; made = c.self.inside.made; kept = c.self.inside.kept.items }) c.self.invariant.0 c.args.self.now c.self.view_is c.self.inside.types (types.grown_self c.self.inside.types)))) (many (term_at c.self.inside.types c.self.inside.terms) (tuple (state_of (then (record { kinds = c.self.inside.types; rows = c.self.inside.terms; here = c.self.inside.here; outer = c.self.inside.outer; made = c.self.inside.made; kept = c.self.inside.kept.items }) c.self.invariant.0 c.args.self.now c.self.view_is c.self.inside.types (types.grown_self c.self.inside.types))).here) c.self.inside.made c.args.count c.last-parts.result.now c.last-parts.ensures))) c.put.ensures.ok
