-- Invariants of `copy_names`: a copy of names with their types.
use Rattle.std.proofs.Common.{◌≡◌, take}
use Rattle.hl_check.proofs.program.copy_names.Given as goal

abbrev pub invariant-names : goal.invariant-names
invariant-names l = l.copies ≡ take l.one-index l.names
