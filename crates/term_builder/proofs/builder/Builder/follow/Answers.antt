-- Answers to the goals of `follow`.
use Rattle.std.proofs.Common.{ap}
use Rattle.type_table.proofs.Growth as types
use Rattle.term_core.specs.Terms.{term_at}
use Rattle.term_recipes.specs.Shapes.{followed_by}
use Rattle.term_builder.proofs.Turns.{two, then, typed_by, held_done, done}
use Rattle.term_builder.specs.State.{state_of}
use Rattle.term_builder.specs.Steps.{with_made, follow_last}
use Rattle.term_builder.proofs.builder.Builder.follow.Goals as goal

pub returns : goal.returns
returns c =
    done (record { kinds = c.self.inside.types; rows = c.self.inside.terms; here = c.self.inside.here; outer = c.self.inside.outer; made = c.self.inside.made; kept = c.self.inside.kept.items }) c.self.invariant.0 c.args.self.now c.self.view_is c.self.inside.types (types.grown_self c.self.inside.types) c.add_followed.new.types c.add_followed.new.terms c.add_followed.ensures.grown c.add_followed.ensures.kept c.add_followed.ensures.stands follow_last c.replace.new.self 2 c.in_ok-id.id _ c.replace.ensures c.in_ok-id.ensures.ok (ap (λ l. with_made l (state_of (then (record { kinds = c.self.inside.types; rows = c.self.inside.terms; here = c.self.inside.here; outer = c.self.inside.outer; made = c.self.inside.made; kept = c.self.inside.kept.items }) c.self.invariant.0 c.args.self.now c.self.view_is c.self.inside.types (types.grown_self c.self.inside.types)))) (two (term_at c.self.inside.types c.self.inside.terms) followed_by c.self.inside.made c.below-value.result c.top-rest.result c.top-rest.ensures c.below-value.ensures))

pub add_followed-requires-clause-typed : goal.add_followed-requires-clause-typed
add_followed-requires-clause-typed c =
    typed_by (record { kinds = c.self.inside.types; rows = c.self.inside.terms; here = c.self.inside.here; outer = c.self.inside.outer; made = c.self.inside.made; kept = c.self.inside.kept.items }) c.self.invariant.0 c.args.self.now c.self.view_is c.self.inside.types (types.grown_self c.self.inside.types) follow_last 2 _ (ap (λ l. with_made l (state_of (then (record { kinds = c.self.inside.types; rows = c.self.inside.terms; here = c.self.inside.here; outer = c.self.inside.outer; made = c.self.inside.made; kept = c.self.inside.kept.items }) c.self.invariant.0 c.args.self.now c.self.view_is c.self.inside.types (types.grown_self c.self.inside.types)))) (two (term_at c.self.inside.types c.self.inside.terms) followed_by c.self.inside.made c.below-value.result c.top-rest.result c.top-rest.ensures c.below-value.ensures)) c.requires.makes.typed

pub invariant_of-self-2 : goal.invariant_of-self-2
invariant_of-self-2 c =
    (held_done (record { kinds = c.self.inside.types; rows = c.self.inside.terms; here = c.self.inside.here; outer = c.self.inside.outer; made = c.self.inside.made; kept = c.self.inside.kept.items }) c.self.invariant.0 c.args.self.now c.self.view_is c.self.inside.types (types.grown_self c.self.inside.types) c.add_followed.new.types c.add_followed.new.terms c.add_followed.ensures.grown c.add_followed.ensures.kept c.add_followed.ensures.stands c.replace.new.self 2 c.in_ok-id.id c.replace.ensures c.in_ok-id.ensures.ok.within, c.self.invariant.1)
