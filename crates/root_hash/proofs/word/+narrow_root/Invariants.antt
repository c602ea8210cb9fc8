-- Measures of `narrow_root`: the root of the word of 2^level bits with a number.
use Rattle.root_hash.proofs.word.+narrow_root.Given as goal

abbrev pub decreases-narrow_root : goal.decreases-narrow_root
decreases-narrow_root l = l.level
