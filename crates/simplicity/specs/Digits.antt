-- Words as perfect trees of bits (this project's own): a word of 2 ^ k bits is given by k, so nothing divides.
use Rattle.std.specs.Prelude.{ℕ, zero, suc, ◌+◌, ◌*◌, Bool, true, false}
use Rattle.simplicity.specs.Types.{Value, Pair, bit_value, word_count}

-- a bit, or two halves
abbrev pub Digits : ℕ → Type 0
Digits zero = Bool
Digits (suc k) = Digits k × Digits k

abbrev pub bit_number : Bool → ℕ
bit_number false = 0
bit_number true = 1

-- the number that the digits are, the half of the high ones first
abbrev pub number : (k : ℕ) → Digits k → ℕ
number zero b = bit_number b
number (suc k) d = number k d.0 * word_count k + number k d.1

-- the value that the digits are
abbrev pub tree : (k : ℕ) → Digits k → Value
tree zero b = bit_value b
tree (suc k) d = Pair (tree k d.0) (tree k d.1)
