-- Invariants of `patterns` in `copies`.
use Rattle.std.proofs.Common.{◌≡◌, take}
use Rattle.hl_scope.proofs.copies.+patterns.Given as goal

abbrev pub invariant-copy_patterns-patterns : goal.invariant-copy_patterns-patterns
invariant-copy_patterns-patterns l = l.copies ≡ take l.pattern-index l.patterns
