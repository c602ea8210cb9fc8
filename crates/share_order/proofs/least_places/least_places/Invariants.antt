-- Invariants of `least_places` in `least_places`.
use Rattle.share_order.proofs.Leasts.{LeastSoFar}
use Rattle.share_order.proofs.least_places.least_places.Given as goal

abbrev pub invariant-loop-index : goal.invariant-loop-index
invariant-loop-index l = LeastSoFar l.old l.new l.index l.count l.bound l.places.items
