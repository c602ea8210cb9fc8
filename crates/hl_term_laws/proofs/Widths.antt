-- The bound of a list is a power of two.
use Rattle.std.proofs.Common.{◌≡◌, ℕ, suc, ◌^◌, nat_lt, nat_eq, eqb-true, IsTrue}
use Rattle.simplicityhl.specs.Kinds.{is_bound, bound_level}
use Rattle.hl_typing.proofs.Same.{both_true}

pub bound_power : (bound : ℕ) → IsTrue (is_bound bound) → bound ≡ 2 ^ suc (bound_level bound)
bound_power bound h = eqb-true bound (2 ^ suc (bound_level bound)) (both_true (nat_lt (bound_level bound) 16) (nat_eq bound (2 ^ suc (bound_level bound))) h).1
