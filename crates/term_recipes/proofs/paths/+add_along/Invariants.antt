-- Measures of `add_along` in `paths`.
use Rattle.std.proofs.Common.{length}
use Rattle.term_recipes.proofs.paths.+add_along.Given as goal

abbrev pub decreases-add_along : goal.decreases-add_along
decreases-add_along l = length l.steps.now
