-- Invariants of `new_marks`: so many marks, all new.
use Rattle.std.proofs.Common.{◌≡◌, ℕ, length, Some, slice_get}
use Rattle.infer_cells.specs.declared.walk.Mark.{Mark}
use Rattle.infer_cells.specs.declared.walk.Mark.TheVariants as mark
use Rattle.infer_cells.proofs.walk.new_marks.Given as goal

abbrev pub invariant-loop : goal.invariant-loop
invariant-loop l = (length l.marks.items ≡ l.counter) × ((i : ℕ) (m : Mark) → slice_get l.marks.items i ≡ Some m → m ≡ mark.New)
