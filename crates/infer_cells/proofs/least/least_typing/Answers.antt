-- Answers to the goals of `least_typing`: the least typing, whatever its types' weights are.
use Rattle.infer_cells.proofs.Listed.{ids_least, ids_within}
use Rattle.infer_cells.proofs.least.least_typing.Goals as goal

pub returns-clause-least : goal.returns-clause-least
returns-clause-least c =
    ids_least c.args.nodes.now _ c.in-Ok.constraints.cells.items c.in-Ok.constraints.places.items c.type_cells.new.types c.in-Ok-type_cells.ids.items c.in-Ok.ensures.ok
    (rw c.as_slice.ensures.value at c.in-Ok-type_cells.ensures.ids) c.in_ok-arrows.field-0 (rw (c.as_slice-2.ensures.value, c.as_slice-3.ensures.value) at c.in_ok-arrows.ensures)

pub returns-clause-there : goal.returns-clause-there
returns-clause-there c =
    ids_within c.args.nodes.now _ c.in-Ok.constraints.cells.items c.in-Ok.constraints.places.items c.type_cells.new.types c.in-Ok-type_cells.ids.items c.in-Ok.ensures.ok
    (rw c.as_slice.ensures.value at c.in-Ok-type_cells.ensures.ids) c.in_ok-arrows.field-0 (rw (c.as_slice-2.ensures.value, c.as_slice-3.ensures.value) at c.in_ok-arrows.ensures)
