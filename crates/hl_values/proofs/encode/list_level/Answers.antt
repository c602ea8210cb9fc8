-- Answers to the goals of `list_level` in `encode`.
use Rattle.std.proofs.Common.{arith}
use Rattle.hl_types.proofs.Parts.{bound_parts, level_at}
use Rattle.hl_values.proofs.encode.list_level.Goals as goal

pub overflow_sub-result : goal.overflow_sub-result
overflow_sub-result c = let e = level_at c.args.bound c.ilog2.result c.requires c.ilog2.ensures.power_le c.ilog2.ensures.next_power_gt in omega arith

pub returns-clause-level : goal.returns-clause-level
returns-clause-level c = let e = level_at c.args.bound c.ilog2.result c.requires c.ilog2.ensures.power_le c.ilog2.ensures.next_power_gt in omega arith

pub returns-clause-few : goal.returns-clause-few
returns-clause-few c = let e = level_at c.args.bound c.ilog2.result c.requires c.ilog2.ensures.power_le c.ilog2.ensures.next_power_gt in let f = (bound_parts c.args.bound c.requires).0 in omega arith
