-- Invariants of `copy_type`: a copy of a type.
use Rattle.std.proofs.Common.{◌≡◌, take}
use Rattle.hl_types.proofs.copies.+copy_type.Given as goal

abbrev pub invariant-parts : goal.invariant-parts
invariant-parts l = l.copies ≡ take l.part-index l.part-items
