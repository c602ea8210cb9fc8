-- Measures of `list_of_last` in `join`.
use Rattle.hl_values.proofs.join.+list_of_last.Given as goal

abbrev pub decreases-list_of_last : goal.decreases-list_of_last
decreases-list_of_last l = l.level
