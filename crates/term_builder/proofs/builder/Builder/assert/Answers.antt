-- Answers to the goals of `assert`.
use Rattle.std.proofs.Common.{ap}
use Rattle.hl_terms.specs.Translated.{asserted}
use Rattle.type_table.proofs.Growth as types
use Rattle.term_core.specs.Terms.{term_at}
use Rattle.term_builder.proofs.Turns.{one, then, done}
use Rattle.term_builder.specs.State.{state_of}
use Rattle.term_builder.specs.Steps.{with_made, assert_last}
use Rattle.term_builder.proofs.builder.Builder.assert.Goals as goal

pub returns : goal.returns
returns c =
    done (record { kinds = c.self.inside.types; rows = c.self.inside.terms; here = c.self.inside.here; outer = c.self.inside.outer; made = c.self.inside.made; kept = c.self.inside.kept.items }) c.self.invariant.0 c.args.self.now c.self.view_is c.self.inside.types (types.grown_self c.self.inside.types) c.add_asserted.new.types c.add_asserted.new.terms c.add_asserted.ensures.grown c.add_asserted.ensures.kept c.add_asserted.ensures.stands assert_last c.replace.new.self 1 c.in_ok-id.id _ c.replace.ensures c.in_ok-id.ensures.ok (ap (λ l. with_made l (state_of (then (record { kinds = c.self.inside.types; rows = c.self.inside.terms; here = c.self.inside.here; outer = c.self.inside.outer; made = c.self.inside.made; kept = c.self.inside.kept.items }) c.self.invariant.0 c.args.self.now c.self.view_is c.self.inside.types (types.grown_self c.self.inside.types)))) (one (term_at c.self.inside.types c.self.inside.terms) (λ t. asserted t (state_of (then (record { kinds = c.self.inside.types; rows = c.self.inside.terms; here = c.self.inside.here; outer = c.self.inside.outer; made = c.self.inside.made; kept = c.self.inside.kept.items }) c.self.invariant.0 c.args.self.now c.self.view_is c.self.inside.types (types.grown_self c.self.inside.types))).here) c.self.inside.made c.top-value.result c.top-value.ensures))
