-- Answers to the goals of `least_typing`: the least typing of a list that has one.
use Rattle.share_order.proofs.Whole.{as_long}
use Rattle.share_order.proofs.reordering.least_typing.Goals as goal

pub returns-in-Ok-clause-count : goal.returns-in-Ok-clause-count
returns-in-Ok-clause-count c = as_long c.args.list.now c.infer.new.types c.in-Ok.typing c.in-Ok.ensures.light.0
