-- Measures of `value`: a value text that is nested less than so deep: `depth` counts the expressions
-- that stand in one another.
use Rattle.hl_exprs.proofs.expr.+value.Given as goal

abbrev pub decreases-value : goal.decreases-value
decreases-value l = l.depth
