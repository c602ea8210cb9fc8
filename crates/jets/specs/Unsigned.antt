-- Numbers of so many bits.
use Rattle.std.specs.Prelude.{ℕ, ◌^◌, ◌<◌, Bool, nat_eq, [], ◌∷◌, IsTrue}
use Rattle.std.specs.List.{list_any}

-- the widths that words have: 1 to 256 by doubling
abbrev pub is_width : ℕ → Bool
is_width n = list_any (nat_eq n) (1 ∷ 2 ∷ 4 ∷ 8 ∷ 16 ∷ 32 ∷ 64 ∷ 128 ∷ 256 ∷ [])

-- a number with its width in bits
pub record Unsigned : Type 0 where
  pub width : ℕ
  pub number : ℕ

-- the width is one that words have, and the number fits it
pub record IsUnsigned (u : Unsigned) : Type 0 where
  pub width : IsTrue (is_width u.width)
  pub fits : u.number < 2 ^ u.width
