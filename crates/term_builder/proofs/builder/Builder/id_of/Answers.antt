-- Answers to the goals of `id_of`.
use Rattle.term_builder.proofs.Turns.{same_then, held_then}
use Rattle.term_builder.proofs.builder.Builder.id_of.Goals as goal

pub invariant_of-self : goal.invariant_of-self
invariant_of-self c =
    (held_then (record { kinds = c.self.inside.types; rows = c.self.inside.terms; here = c.self.inside.here; outer = c.self.inside.outer; made = c.self.inside.made; kept = c.self.inside.kept.items }) c.self.invariant.0 c.args.self.now c.self.view_is c.core_id.new.types c.core_id.ensures.grown, c.self.invariant.1)

pub returns-clause-same : goal.returns-clause-same
returns-clause-same c =
    same_then (record { kinds = c.self.inside.types; rows = c.self.inside.terms; here = c.self.inside.here; outer = c.self.inside.outer; made = c.self.inside.made; kept = c.self.inside.kept.items }) c.self.invariant.0 c.args.self.now c.self.view_is c.core_id.new.types c.core_id.ensures.grown
