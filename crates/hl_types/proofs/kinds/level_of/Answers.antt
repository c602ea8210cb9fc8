-- Answers to the goals of `level_of`: the level of a list's bound: 2 ^ (k + 1) has level k.
use Rattle.std.proofs.Common.{arith}
use Rattle.hl_types.proofs.Parts.{bound_parts, level_at}
use Rattle.hl_types.proofs.kinds.level_of.Goals as goal

pub overflow_sub-result : goal.overflow_sub-result
overflow_sub-result c = let e = level_at c.args.bound c.ilog2.result c.requires c.ilog2.ensures.power_le c.ilog2.ensures.next_power_gt in omega arith

pub returns-clause-level : goal.returns-clause-level
returns-clause-level c = let e = level_at c.args.bound c.ilog2.result c.requires c.ilog2.ensures.power_le c.ilog2.ensures.next_power_gt in omega arith

pub returns-clause-few : goal.returns-clause-few
returns-clause-few c = let e = level_at c.args.bound c.ilog2.result c.requires c.ilog2.ensures.power_le c.ilog2.ensures.next_power_gt in let f = (bound_parts c.args.bound c.requires).0 in omega arith
