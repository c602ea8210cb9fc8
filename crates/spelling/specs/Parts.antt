-- A natural read without recursion: the ones that stand first say how many parts follow, and each part is the width of the next (this project's own).
use Rattle.std.specs.Prelude.{ℕ, zero, suc, Bool, true, false, List, [], ◌∷◌}
use Rattle.spelling.specs.Reading.{Got, Refused, EndOfBits, Reading, then, give, power}

-- the number of ones before the first zero, which is read too
abbrev pub ones : Reading ℕ
ones at [] = Refused (EndOfBits at)
ones at (false ∷ bits) = Got 0 (suc at) bits
ones at (true ∷ bits) = then (ones (suc at) bits) (λ n. give (suc n))

-- so many parts, the first in as many bits as the value says
abbrev pub powers : ℕ → ℕ → ℕ → Reading ℕ
powers start zero value at bits = Got value at bits
powers start (suc n) value at bits = then (power start value at bits) (powers start n)
