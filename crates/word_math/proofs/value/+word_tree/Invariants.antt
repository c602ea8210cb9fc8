-- Measures of `word_tree` in `value`.
use Rattle.word_math.proofs.value.+word_tree.Given as goal

abbrev pub decreases-word_tree : goal.decreases-word_tree
decreases-word_tree l = l.level
