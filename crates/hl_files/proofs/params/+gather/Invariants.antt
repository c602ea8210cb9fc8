-- Invariants of `gather` in `params`.
use Rattle.std.proofs.Common.{◌≡◌, map, drop}
use Rattle.hl_files.specs.Params.{all_of, in_arm, in_expr, in_statement, with_names}
use Rattle.hl_files.proofs.params.+gather.Given as goal

abbrev pub invariant-from_arms-arms : goal.invariant-from_arms-arms
invariant-from_arms-arms l = with_names l.names (all_of (map in_arm (drop l.arm-index l.arm-items))) ≡ with_names l.fn.names (all_of (map in_arm l.fn.arms))

abbrev pub invariant-from_exprs-parts : goal.invariant-from_exprs-parts
invariant-from_exprs-parts l = with_names l.names (all_of (map in_expr (drop l.part-index l.part-items))) ≡ with_names l.fn.names (all_of (map in_expr l.fn.parts))

abbrev pub invariant-from_statements-statements : goal.invariant-from_statements-statements
invariant-from_statements-statements l =
    with_names l.names (all_of (map in_statement (drop l.statement-index l.statement-items))) ≡ with_names l.fn.names (all_of (map in_statement l.fn.statements))
