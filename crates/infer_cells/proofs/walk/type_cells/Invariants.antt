-- Invariants of `type_cells` in `walk`.
use Rattle.std.proofs.Common.{◌≡◌, ℕ, length, Some, slice_get}
use Rattle.type_table.specs.Kinds.{IsGrown}
use Rattle.infer_cells.specs.declared.walk.Mark.TheVariants as mark
use Rattle.infer_cells.specs.Walk.{IsLeastId, MarksMean}
use Rattle.infer_cells.proofs.walk.type_cells.Given as goal

abbrev pub invariant-loop-start : goal.invariant-loop-start
invariant-loop-start l = record {
  count : length l.marks.items ≡ length l.cells;
  done : MarksMean l.cells l.types l.marks.items;
  closed : (i : ℕ) → slice_get l.marks.items i ≡ Some mark.Open → ⊥;
  ids : (i id : ℕ) → slice_get l.ids.items i ≡ Some id → IsLeastId l.cells l.types i id;
  so_far : length l.ids.items ≡ l.start;
  grown : IsGrown l.fn.types l.types;
}
