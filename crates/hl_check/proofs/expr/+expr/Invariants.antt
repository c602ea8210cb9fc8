-- Measures of `expr` in `expr`.
use Rattle.hl_check.proofs.expr.+expr.Given as goal

abbrev pub decreases-expr : goal.decreases-expr
decreases-expr l = l.depth
