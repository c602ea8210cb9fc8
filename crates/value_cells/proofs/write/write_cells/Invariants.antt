-- Invariants of `write_cells`: what is written, before what is left, is the value's cells.
use Rattle.std.proofs.Common.{◌≡◌, ◌++◌}
use Rattle.simplicity.specs.Cells as spec
use Rattle.core_data.specs.Data.{value_of}
use Rattle.frame_stack.specs.Bits.{cells_of}
use Rattle.type_table.specs.Kinds.{kind_at}
use Rattle.value_cells.specs.Parts.{cells_left, load_left, AreParts}
use Rattle.value_cells.proofs.write.write_cells.Given as goal

abbrev pub invariant-loop-part : goal.invariant-loop-part
invariant-loop-part l = record {
  parts : AreParts l.types l.parts.items;
  cells : cells_of l.cells.items ++ cells_left l.types l.parts.items ≡ cells_of l.fn.cells.items ++ spec.cells (kind_at l.types l.fn.kind) (value_of l.fn.value);
}

abbrev pub decreases-loop-part : goal.decreases-loop-part
decreases-loop-part l = load_left l.parts.items
