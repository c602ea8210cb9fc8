-- Words as values of the core language.
use Rattle.std.specs.Prelude.{ℕ, ◌≡◌, ◌<◌}
use Rattle.simplicity.specs.Types.{Value, word_value, word_count}

-- the value is the word of 2 ^ k bits with the number
pub record IsWordOf (k n : ℕ) (v : Value) : Type 0 where
  pub fits : n < word_count k
  pub is : v ≡ word_value k n

-- the value is no word of 2 ^ k bits
abbrev pub IsNoWordOf : ℕ → Value → Type 0
IsNoWordOf k v = (n : ℕ) → v ≡ word_value k n → ⊥
