-- Answers to the goals of `merging_orders_law`: merging an ordered list gives an ordered list where the
-- new places come in its order.
use Rattle.sharing.proofs.Reordered.{merging_orders}
use Rattle.sharing.proofs.merging_orders_law.Goals as goal

pub returns : goal.returns
returns c = merging_orders
