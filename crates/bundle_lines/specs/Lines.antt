-- The lines of a file.
use Rattle.std.specs.Prelude.{ℕ, List, [], ◌∷◌}
use Rattle.std.specs.Str.Lines.{lines}

-- cut at each line feed, a carriage return before it dropped, with no further line after a last line feed; an empty file
-- is one empty line
abbrev pub lines_of : List ℕ → List (List ℕ)
lines_of [] = [] ∷ []
lines_of (c ∷ text) = lines (c ∷ text)
