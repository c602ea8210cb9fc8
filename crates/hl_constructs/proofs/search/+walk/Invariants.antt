-- Invariants of `walk` in `search`: what is left decides.
use Rattle.std.proofs.Common.{◌≡◌, map, drop}
use Rattle.hl_constructs.specs.Held.{any_of, in_arm, in_expr, in_statement}
use Rattle.hl_constructs.proofs.search.+walk.Given as goal

abbrev pub invariant-search_arms-arms : goal.invariant-search_arms-arms
invariant-search_arms-arms l = any_of (map in_arm (drop l.arm-index l.arm-items)) ≡ any_of (map in_arm l.fn.arms)

abbrev pub invariant-search_exprs-parts : goal.invariant-search_exprs-parts
invariant-search_exprs-parts l = any_of (map in_expr (drop l.part-index l.part-items)) ≡ any_of (map in_expr l.fn.parts)

abbrev pub invariant-search_statements-statements : goal.invariant-search_statements-statements
invariant-search_statements-statements l =
    any_of (map in_statement (drop l.statement-index l.statement-items)) ≡ any_of (map in_statement l.fn.statements)
