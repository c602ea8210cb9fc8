-- Measures of `descend` in `path`.
use Rattle.scope_layout.proofs.path.+descend.Given as goal

abbrev pub decreases-descend : goal.decreases-descend
decreases-descend l = l.count
