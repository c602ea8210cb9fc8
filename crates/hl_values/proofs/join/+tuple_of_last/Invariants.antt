-- Measures of `tuple_of_last` in `join`.
use Rattle.hl_values.proofs.join.+tuple_of_last.Given as goal

abbrev pub decreases-tuple_of_last : goal.decreases-tuple_of_last
decreases-tuple_of_last l = l.count
