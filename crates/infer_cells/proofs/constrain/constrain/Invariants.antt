-- Invariants of `constrain` in `constrain`.
use Rattle.std.proofs.Common.{◌≡◌, [], max}
use Rattle.infer_cells.proofs.Constraint.{Constrains}
use Rattle.infer_cells.proofs.constrain.constrain.Given as goal

abbrev pub invariant-loop-node : goal.invariant-loop-node
invariant-loop-node l = record {
  so_far : Constrains l.types (max l.source l.target) l.nodes l.node-index l.cells.items l.places.items;
  nothing : l.work.items ≡ [];
}
