-- Lists of ids of a table of types.
use Rattle.std.specs.Prelude.{ℕ, ◌<◌, List, [], ◌∷◌}

-- each id is less than the bound
abbrev pub AreBelow : ℕ → List ℕ → Type 0
AreBelow bound [] = Unit {0}
AreBelow bound (id ∷ ids) = (id < bound) × AreBelow bound ids
