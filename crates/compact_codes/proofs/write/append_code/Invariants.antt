-- Invariants of `append_code`: appends the compact code of a value; after an error some of it may stand
-- there.
use Rattle.std.proofs.Common.{◌≡◌, ◌++◌, length, take}
use Rattle.core_data.specs.Data.{value_of}
use Rattle.simplicity.specs.Types.{code}
use Rattle.compact_codes.proofs.Parts.{codes_left, load_left}
use Rattle.compact_codes.proofs.write.append_code.Given as goal

abbrev pub invariant-loop-part : goal.invariant-loop-part
invariant-loop-part l = (l.bits ++ codes_left l.parts.items ≡ l.fn.bits ++ code (value_of l.fn.value)) × (take (length l.fn.bits) l.bits ≡ l.fn.bits)

abbrev pub decreases-loop-part : goal.decreases-loop-part
decreases-loop-part l = load_left l.parts.items
