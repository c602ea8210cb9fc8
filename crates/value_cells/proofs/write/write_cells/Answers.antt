-- Answers to the goals of `write_cells`.
use Rattle.std.proofs.Common.{arith, ◌++◌}
use Rattle.simplicity.specs.Cells as spec
use Rattle.core_data.specs.Data.{value_of}
use Rattle.frame_stack.specs.Bits.{cells_of}
use Rattle.type_table.specs.Kinds.{kind_at}
use Rattle.value_cells.proofs.Parts.{popped, next_cells, load_more}
use Rattle.value_cells.proofs.write.write_cells.Goals as goal

pub write_part-requires-clause-part : goal.write_part-requires-clause-part
write_part-requires-clause-part c = (popped c.args.types.now c.loop-part.parts.items c.pop.new.self.items c.in-Some.part c.in-Some.ensures.items c.loop-part.invariant.parts).1

pub write_part-requires-clause-parts : goal.write_part-requires-clause-parts
write_part-requires-clause-parts c = (popped c.args.types.now c.loop-part.parts.items c.pop.new.self.items c.in-Some.part c.in-Some.ensures.items c.loop-part.invariant.parts).0

pub loop-part-smaller : goal.loop-part-smaller
loop-part-smaller c = omega (arith, load_more c.pop.new.self.items c.loop-part.parts.items c.in-Some.part c.in-Some.ensures.items, c.in_ok-write_part.ensures.less)

pub loop-part-preserved : goal.loop-part-preserved
loop-part-preserved c = record {
  parts = c.in_ok-write_part.ensures.parts;
  cells = next_cells c.args.types.now (cells_of c.loop-part.cells.items) (cells_of c.write_part.new.cells.items)
      (cells_of c.args.cells.now.items ++ spec.cells (kind_at c.args.types.now c.args.kind) (value_of c.args.value.now)) c.loop-part.parts.items c.pop.new.self.items
      c.write_part.new.parts.items c.in-Some.part c.in-Some.ensures.items c.loop-part.invariant.cells c.in_ok-write_part.ensures.cells;
}
