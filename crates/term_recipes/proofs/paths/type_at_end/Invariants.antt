-- Invariants of `type_at_end` in `paths`.
use Rattle.std.proofs.Common.{map, drop}
use Rattle.layout_laws.specs.Scopes.{step_of}
use Rattle.type_table.specs.Kinds.{kind_at}
use Rattle.term_recipes.specs.Shapes.{end_of}
use Rattle.term_recipes.proofs.Along.{Led}
use Rattle.term_recipes.proofs.paths.type_at_end.Given as goal

abbrev pub invariant-steps : goal.invariant-steps
invariant-steps l = Led l.fn.types l.types l.kind (drop l.step-index (map step_of l.steps)) (end_of (kind_at l.fn.types l.fn.source) (map step_of l.fn.steps))
