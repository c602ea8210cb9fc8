-- Answers to the goals of `sharing`: what is answered of a list's sharing under its least typing.
use Rattle.order_rows.proofs.Ordered.{as_long}
use Rattle.order_rows.proofs.orders.sharing.Goals as goal

pub check_shared-requires-clause-count : goal.check_shared-requires-clause-count
check_shared-requires-clause-count c = as_long _ _ _ _ c.in-Ok.ensures.least
