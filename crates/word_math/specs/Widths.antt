-- The widths of words that the code keeps in one number of 128 bits, with room for twice as many.
use Rattle.std.specs.Prelude.{ℕ, ◌*◌, ◌<◌, ◌≤◌, IsTrue}
use Rattle.jets.specs.Unsigned.{Unsigned, is_width}
use Rattle.jets.specs.Jet as jet
use Rattle.jets.specs.Jet.{Jet}

-- a number with its width
abbrev pub unsigned : ℕ → ℕ → Unsigned
unsigned width number = record { width = width; number = number }

-- a width of words from 1 to 64
pub record IsNarrow (n : ℕ) : Type 0 where
  pub some : 0 < n
  pub small : n ≤ 64
  pub width : IsTrue (is_width n)

-- words have twice the width too
pub record IsDoubled (n : ℕ) : Type 0 where
  pub narrow : IsNarrow n
  pub twice : IsTrue (is_width (2 * n))

-- a lesser and a greater of these widths
pub record IsWidened (n w : ℕ) : Type 0 where
  pub narrow : IsNarrow n
  pub wide : IsNarrow w
  pub less : n < w

-- what the widths of a jet are
abbrev pub IsSized : Jet → ℕ → ℕ → Type 0
IsSized jet.Eq n w = Unit {0}
IsSized jet.Verify n w = Unit {0}
IsSized jet.Multiply n w = IsDoubled n
IsSized jet.FullMultiply n w = IsDoubled n
IsSized jet.Leftmost n w = IsWidened n w
IsSized jet.Rightmost n w = IsWidened n w
IsSized jet.LeftPadLow n w = IsWidened n w
IsSized jet.LeftPadHigh n w = IsWidened n w
IsSized jet.LeftExtend n w = IsWidened n w
IsSized jet.RightPadLow n w = IsWidened n w
IsSized jet.RightPadHigh n w = IsWidened n w
IsSized jet.RightExtend n w = IsWidened n w
IsSized _ n w = IsNarrow n
