-- Invariants of `arrows`: the arrows of places, by the ids of their cells.
use Rattle.std.proofs.Common.{◌≡◌, map, take}
use Rattle.infer_cells.specs.Ids.{id_arrow}
use Rattle.infer_cells.proofs.least.arrows.Given as goal

abbrev pub invariant-loop-place : goal.invariant-loop-place
invariant-loop-place l = l.typing ≡ map (id_arrow l.ids) (take l.place-index l.places)
