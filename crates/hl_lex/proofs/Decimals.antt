-- The number that the digits of a word spell, from left to right.
use Rattle.std.proofs.Common.{◌≡◌, refl, ℕ, ◌+◌, ◌-◌, ◌*◌, ◌<◌, ◌≤◌, true, false, List, [], ◌∷◌, length, drop, arith, get_or}
use Rattle.std.specs.Prelude.{fold, filter}
use Rattle.std.specs.Char.{is_ascii_digit}
use Rattle.std.proofs.lemmas.List.{drop_more}

-- the number when these bytes are read after a number
abbrev pub decimal_from : ℕ → List ℕ → ℕ
decimal_from value bytes = fold (λ n c. n * 10 + (c - 48)) value (filter is_ascii_digit bytes)

-- a digit is put behind the number
pub digit_read : (value : ℕ) (bytes : List ℕ) (i d : ℕ) → i < length bytes → is_ascii_digit (get_or bytes i d) ≡ true → decimal_from value (drop i bytes) ≡ decimal_from (value * 10 + (get_or bytes i d - 48)) (drop (i + 1) bytes)
digit_read value bytes i d short e = rw (drop_more bytes i d short) (rw e refl)

-- another byte is left out
pub other_read : (value : ℕ) (bytes : List ℕ) (i d : ℕ) → i < length bytes → is_ascii_digit (get_or bytes i d) ≡ false → decimal_from value (drop i bytes) ≡ decimal_from value (drop (i + 1) bytes)
other_read value bytes i d short e = rw (drop_more bytes i d short) (rw e refl)

-- numbers only grow
pub grows : (value : ℕ) (digits : List ℕ) → value ≤ fold (λ n c. n * 10 + (c - 48)) value digits
grows value [] = omega arith
grows value (c ∷ digits) = let more = grows (value * 10 + (c - 48)) digits in omega arith
