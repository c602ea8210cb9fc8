-- Invariants of `copies` in `copy`.
use Rattle.std.proofs.Common.{◌≡◌, take}
use Rattle.hl_eval.proofs.copy.+copies.Given as goal

abbrev pub invariant-copy_values-items : goal.invariant-copy_values-items
invariant-copy_values-items l = l.copies ≡ take l.value-index l.value-items
