-- The widths that words have, and the level of a width: 2 ^ k has level k.
use Rattle.std.specs.Prelude.{◌≡◌, ℕ, ◌^◌, ◌≤◌, nat_eq, List, [], ◌∷◌}
use Rattle.std.specs.List.{position_or_len}
use Rattle.simplicity.specs.Types.{Kind, word_kind}

abbrev pub word_widths : List ℕ
word_widths = 1 ∷ 2 ∷ 4 ∷ 8 ∷ 16 ∷ 32 ∷ 64 ∷ 128 ∷ 256 ∷ []

-- where the width stands among those of words
abbrev pub level_of : ℕ → ℕ
level_of width = position_or_len (nat_eq width) word_widths

-- one of 1, 2, 4, up to 256
abbrev pub IsWidth : ℕ → Type 0
IsWidth width = (level_of width ≤ 8) × (width ≡ 2 ^ level_of width)

-- the type of words of the width
abbrev pub word_of_width : ℕ → Kind
word_of_width width = word_kind (level_of width)
