-- Invariants of `gather_arrows` in `gathering`.
use Rattle.std.proofs.Common.{◌≡◌, take}
use Rattle.canon_list.specs.Canons.{arrows_at}
use Rattle.canon_list.proofs.gathering.gather_arrows.Given as goal

abbrev pub invariant-loop-node : goal.invariant-loop-node
invariant-loop-node l = l.gathered ≡ arrows_at l.arrows (take l.node-index l.order)
