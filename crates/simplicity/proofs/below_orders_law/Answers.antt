-- Answers to the goals of `below_orders_law`: `≤` on types, by which least typings are compared, is a
-- partial order.
use Rattle.simplicity.proofs.Below.{below_self, below_through, below_both}
use Rattle.simplicity.proofs.below_orders_law.Goals as goal

pub returns : goal.returns
returns c = record { reflexive = below_self; transitive = below_through; antisymmetric = below_both }
