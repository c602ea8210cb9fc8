-- Answers to the goals of `unit`.
use Rattle.std.proofs.Common.{refl}
use Rattle.simplicity.specs.Makes.{unit}
use Rattle.type_table.proofs.Growth as types
use Rattle.term_builder.proofs.Turns.{on_ok, then, done}
use Rattle.term_builder.specs.State.{state_of, State}
use Rattle.term_builder.specs.Steps.{with_term}
use Rattle.term_builder.proofs.builder.Builder.unit.Goals as goal

pub returns : goal.returns
returns c =
    on_ok c.push.result (λ e. done (record { kinds = c.self.inside.types; rows = c.self.inside.terms; here = c.self.inside.here; outer = c.self.inside.outer; made = c.self.inside.made; kept = c.self.inside.kept.items }) c.self.invariant.0 c.args.self.now c.self.view_is c.self.inside.types (types.grown_self c.self.inside.types) c.add_unit.new.types c.add_unit.new.terms c.add_unit.ensures.grown c.add_unit.ensures.kept c.add_unit.ensures.stands (λ (s : State). with_term (unit s.here) s) c.push.new.self 0 c.in_ok-id.id (unit (state_of (then (record { kinds = c.self.inside.types; rows = c.self.inside.terms; here = c.self.inside.here; outer = c.self.inside.outer; made = c.self.inside.made; kept = c.self.inside.kept.items }) c.self.invariant.0 c.args.self.now c.self.view_is c.self.inside.types (types.grown_self c.self.inside.types))).here) e c.in_ok-id.ensures.ok refl) c.push.ensures.ok
