-- Measures of `block_type` in `listed`.
use Rattle.term_recipes.proofs.listed.+block_type.Given as goal

abbrev pub decreases-block_type : goal.decreases-block_type
decreases-block_type l = l.level
