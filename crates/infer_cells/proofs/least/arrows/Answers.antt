-- Answers to the goals of `arrows`: the arrows of places, by the ids of their cells.
use Rattle.infer_cells.proofs.Listed.{item_within}
use Rattle.infer_cells.proofs.least.arrows.Goals as goal

pub arrow_at-requires : goal.arrow_at-requires
arrow_at-requires c = item_within _ c.args.places.now c.loop-place.place-index _ c.requires c.loop-place-test.true
