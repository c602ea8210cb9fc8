-- Measures of `result_type`: a result type that is nested at most `depth` deep.
use Rattle.small_source.proofs.read.+result_type.Given as goal

abbrev pub decreases-result_type : goal.decreases-result_type
decreases-result_type l = l.depth
