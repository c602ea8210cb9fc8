-- Invariants of `values` in `copies`.
use Rattle.std.proofs.Common.{◌≡◌, take}
use Rattle.hl_scope.proofs.copies.+values.Given as goal

abbrev pub invariant-copy_values-values : goal.invariant-copy_values-values
invariant-copy_values-values l = l.copies ≡ take l.value-index l.values
