-- Invariants of `read_first`: goes down to the first part of a type that is the unit type, gives that
-- part's value, and leaves what is to be done with it.
use Rattle.compact_codes.proofs.Frames.{Goes}
use Rattle.compact_codes.proofs.read.read_first.Given as goal

abbrev pub invariant-loop-left : goal.invariant-loop-left
invariant-loop-left l = Goes l.types l.kind l.fn.frames.items l.fn.bits l.part l.frames.items l.bits

abbrev pub decreases-loop-left : goal.decreases-loop-left
decreases-loop-left l = l.part
