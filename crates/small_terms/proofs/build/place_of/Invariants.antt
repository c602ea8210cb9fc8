-- Invariants of `place_of`: the place of the first parameter of a name.
use Rattle.std.proofs.Common.{◌≡◌, ℕ, ◌<◌, slice_get, Some}
use Rattle.small_terms.proofs.build.place_of.Given as goal

abbrev pub invariant-loop-place : goal.invariant-loop-place
invariant-loop-place l = (i : ℕ) → i < l.place → ¬ (slice_get l.parameters i ≡ Some l.name)
