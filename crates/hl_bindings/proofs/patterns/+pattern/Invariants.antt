-- Measures of `pattern` in `patterns`.
use Rattle.hl_bindings.proofs.patterns.+pattern.Given as goal

abbrev pub decreases-pattern : goal.decreases-pattern
decreases-pattern l = l.depth
