-- Measures of `add_blocks` in `listed`.
use Rattle.term_recipes.proofs.listed.+add_blocks.Given as goal

abbrev pub decreases-add_blocks : goal.decreases-add_blocks
decreases-add_blocks l = l.level
