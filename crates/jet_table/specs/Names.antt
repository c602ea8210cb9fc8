-- Names in the order of their bytes.
use Rattle.std.specs.Prelude.{ℕ, Bool, true, ◌&&◌, List, [], ◌∷◌}
use Rattle.std.specs.Cmp.Lexicographic.{slice_cmp}
use Rattle.std.specs.Ordering.{is_lt, nat_cmp}

-- each name is below the next
abbrev pub is_rising : List (List ℕ) → Bool
is_rising [] = true
is_rising (x ∷ []) = true
is_rising (x ∷ y ∷ names) = is_lt (slice_cmp nat_cmp x y) && is_rising (y ∷ names)
