-- Invariants of `extend_works`: the works up to the next type are there.
use Rattle.std.proofs.Common.{◌≡◌, length}
use Rattle.cost_bound.specs.Numbers.{AreWorks}
use Rattle.cost_bound.proofs.writing.extend_works.Given as goal

abbrev pub invariant-loop-next : goal.invariant-loop-next
invariant-loop-next l = record { works : AreWorks l.types l.works.items; next : l.next ≡ length l.works.items }
