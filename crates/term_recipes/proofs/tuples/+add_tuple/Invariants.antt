-- Measures of `add_tuple` in `tuples`.
use Rattle.std.proofs.Common.{length}
use Rattle.term_recipes.proofs.tuples.+add_tuple.Given as goal

abbrev pub decreases-add_tuple : goal.decreases-add_tuple
decreases-add_tuple l = length l.parts.now
