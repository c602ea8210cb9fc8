-- Tests of a jet's call by its numbers.
use Rattle.std.specs.Prelude.{ℕ, Bool, ◌&&◌, nat_le, List, map, take}
use Rattle.std.specs.Str.{bytes_eq}
use Rattle.jets.specs.Jet.{Jet, is_jet, argument_kinds, width_of}

-- there is such a jet, and its arguments have the first widths
abbrev pub is_call : Jet → ℕ → ℕ → ℕ → List ℕ → Bool
is_call j n w count widths = is_jet j n w && (nat_le count 4 && bytes_eq (take count widths) (map width_of (argument_kinds j n w)))
