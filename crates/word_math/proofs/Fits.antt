-- Bit by bit, words of n bits give words of n bits.
use Rattle.std.proofs.Common.{ℕ, ◌^◌, ◌<◌, arith, bit_and}
use Rattle.std.proofs.lemmas.Nat.{and_le_l, and_le_r}

pub and_lt_left : (n a b : ℕ) → a < 2 ^ n → bit_and a b < 2 ^ n
and_lt_left n a b h = omega (arith, and_le_l a b)

pub and_lt_right : (n a b : ℕ) → b < 2 ^ n → bit_and a b < 2 ^ n
and_lt_right n a b h = omega (arith, and_le_r a b)
