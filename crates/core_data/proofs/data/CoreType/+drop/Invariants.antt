-- Invariants of `drop`: turns the tree to the right as it goes, so that a deep type takes no stack.
use Rattle.std.proofs.Common.{◌<◌}
use Rattle.core_data.specs.Data.{kind_of}
use Rattle.core_data.specs.declared.data.CoreType.{size-CoreType}
use Rattle.core_data.specs.Loads.{kind_load}
use Rattle.core_data.proofs.data.CoreType.+drop.Given as goal

abbrev pub invariant-loop-self : goal.invariant-loop-self
invariant-loop-self l = 1 < kind_load (kind_of l.self) → 1 < size-CoreType l.fn.self

abbrev pub decreases-loop-self : goal.decreases-loop-self
decreases-loop-self l = kind_load (kind_of l.self)
