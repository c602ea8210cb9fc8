-- Invariants of `type_of`: the id of one cell's least type, by a walk along its parts whose path is a list.
use Rattle.std.proofs.Common.{◌⊎◌}
use Rattle.type_table.specs.Kinds.{IsGrown}
use Rattle.infer_cells.specs.Walk.{IsWalk, Has, IsDone, walk_load}
use Rattle.infer_cells.proofs.walk.type_of.Given as goal

abbrev pub invariant-loop-top : goal.invariant-loop-top
invariant-loop-top l = record {
  walk : IsWalk l.cells l.types l.marks.items l.path.items;
  started : Has l.path.items l.start ⊎ IsDone l.marks.items l.start;
  grown : IsGrown l.fn.types l.types;
}

abbrev pub decreases-loop-top : goal.decreases-loop-top
decreases-loop-top l = walk_load l.marks.items l.path.items
