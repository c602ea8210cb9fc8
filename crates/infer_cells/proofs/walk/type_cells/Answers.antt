-- Answers to the goals of `type_cells` in `walk`.
use Rattle.std.proofs.Common.{arith, length, length-append, ◌∷◌, [], ap}
use Rattle.type_table.proofs.Growth.{grown_through}
use Rattle.infer_cells.proofs.Paths.{one_id_more}
use Rattle.infer_cells.proofs.walk.type_cells.Goals as goal

pub loop-start-preserved : goal.loop-start-preserved
loop-start-preserved c = record {
  count = c.in-Ok.ensures.count;
  done = c.in-Ok.ensures.done;
  closed = c.in-Ok.ensures.closed;
  ids = one_id_more c.args.cells.now c.loop-start.types c.type_of.new.types c.loop-start.ids.items c.append.new.ids.items c.loop-start.start c.in-Ok.id c.in-Ok.ensures.grown
      c.loop-start.invariant.so_far c.loop-start.invariant.ids c.in-Ok.ensures.id c.in_ok-append.ensures;
  so_far = omega (arith, ap length c.in_ok-append.ensures, length-append c.loop-start.ids.items (c.in-Ok.id ∷ []), c.loop-start.invariant.so_far);
  grown = grown_through _ _ _ c.loop-start.invariant.grown c.in-Ok.ensures.grown;
}
