-- Invariants of `same_type`: whether two types are the same as written out without aliases.
use Rattle.std.proofs.Common.{◌≡◌, take}
use Rattle.simplicityhl.specs.Same.{same_type}
use Rattle.hl_types.proofs.Equal.{left_same}
use Rattle.hl_types.proofs.same.+same_type.Given as goal

abbrev pub invariant-parts : goal.invariant-parts
invariant-parts l = record {
  same : left_same l.part-items l.given l.place ≡ same_type l.fn.one l.fn.other;
  equal : take l.place l.part-items ≡ take l.place l.given;
}
