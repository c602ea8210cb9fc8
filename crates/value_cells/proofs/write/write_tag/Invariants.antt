-- Invariants of `write_tag`: the tag and so many undefined cells are written.
use Rattle.std.proofs.Common.{◌≡◌, ◌∷◌, ◌++◌}
use Rattle.simplicity.specs.Cells.{undefined}
use Rattle.frame_stack.specs.Bits.{cell_of, cells_of}
use Rattle.value_cells.proofs.write.write_tag.Given as goal

abbrev pub invariant-loop-done : goal.invariant-loop-done
invariant-loop-done l = cells_of l.cells.items ≡ cells_of l.fn.cells.items ++ (cell_of l.fn.tag ∷ undefined l._done)
