-- Invariants of `tell_apart` in `tell`.
use Rattle.share_order.proofs.Told.{NoneYet}
use Rattle.share_order.proofs.tell.tell_apart.Given as goal

abbrev pub invariant-loop-index : goal.invariant-loop-index
invariant-loop-index l = NoneYet l.index l.typing
