-- Answers to the goals of `least_types_change_no_result`: the least types with an arrow at the root
-- change no result.
use Rattle.infer_cells.proofs.Shrunk.{same_result}
use Rattle.infer_cells.proofs.laws.least_types_change_no_result.Goals as goal

pub returns : goal.returns
returns c = same_result c.trees_are_typed_law.ensures c.shrink_keeps_law.ensures c.meaning_keeps_law.ensures
