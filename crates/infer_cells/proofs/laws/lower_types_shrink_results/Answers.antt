-- Answers to the goals of `lower_types_shrink_results`: under lower types a list gives, on values shrunk
-- to them, the shrunk value, and fails exactly where it fails.
use Rattle.infer_cells.proofs.Shrunk.{shrink_law}
use Rattle.infer_cells.proofs.laws.lower_types_shrink_results.Goals as goal

pub returns : goal.returns
returns c = shrink_law c.trees_are_typed_law.ensures c.shrink_keeps_law.ensures
