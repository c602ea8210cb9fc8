-- Invariants of `append_number`: appends the last `width` bits of a number; after an error some of them
-- may stand there.
use Rattle.std.proofs.Common.{◌≡◌, ◌++◌, length, take}
use Rattle.simplicity.specs.Spelling.{number_bits}
use Rattle.cell_bits.proofs.writer.append_number.Given as goal

abbrev pub invariant-loop-place : goal.invariant-loop-place
invariant-loop-place l =
    (l.bits.items ++ number_bits l.place l.value ≡ l.fn.bits.items ++ number_bits l.width l.value)
    × (take (length l.fn.bits.items) l.bits.items ≡ l.fn.bits.items)
