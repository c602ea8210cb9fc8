-- Invariants of `read_parts`: reads a value of a type; after an error some of its bits may be read.
use Rattle.core_data.specs.Data.{value_of}
use Rattle.compact_codes.specs.Frames.{load}
use Rattle.compact_codes.proofs.Frames.{Climbs}
use Rattle.compact_codes.proofs.read.read_parts.Given as goal

abbrev pub invariant-loop-frame : goal.invariant-loop-frame
invariant-loop-frame l = Climbs l.types l.kind l.fn.bits l.frames.items (value_of l.value) l.bits

abbrev pub decreases-loop-frame : goal.decreases-loop-frame
decreases-loop-frame l = load l.types l.frames.items
