-- Answers to the goals of `gathering_orders_law`: what the root of a placed list reaches is a placed
-- list in its order.
use Rattle.sharing.proofs.Reordered.{gathering_orders}
use Rattle.sharing.proofs.gathering_orders_law.Goals as goal

pub returns : goal.returns
returns c = gathering_orders
