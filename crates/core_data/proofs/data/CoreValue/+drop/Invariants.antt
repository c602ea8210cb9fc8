-- Invariants of `drop`: turns the tree to the right as it goes, so that a deep type takes no stack.
use Rattle.std.proofs.Common.{◌<◌}
use Rattle.core_data.specs.Data.{value_of}
use Rattle.core_data.specs.declared.data.CoreValue.{size-CoreValue}
use Rattle.core_data.specs.Loads.{load}
use Rattle.core_data.proofs.data.CoreValue.+drop.Given as goal

abbrev pub invariant-loop-self : goal.invariant-loop-self
invariant-loop-self l = 1 < load (value_of l.self) → 1 < size-CoreValue l.fn.self

abbrev pub decreases-loop-self : goal.decreases-loop-self
decreases-loop-self l = load (value_of l.self)
