-- Editions of the language, as words name them.
use Rattle.std.specs.Prelude.{ℕ, Bool, ◌||◌, List, Option, Some, None, codes, bytes_eq, if◌then◌else◌}
use Rattle.command_words.specs.declared.edition.Edition.{Edition}
use Rattle.command_words.specs.declared.edition.Edition.TheVariants.{First, Second}

abbrev pub number_of : Edition → ℕ
number_of First = 1
number_of Second = 2

abbrev pub is_edition : List ℕ → Bool
is_edition value = bytes_eq value (codes "1") || bytes_eq value (codes "2")

-- the first edition where none is named
abbrev pub edition_in : Option (List ℕ) → Edition
edition_in (Some value) = if bytes_eq value (codes "2") then Second else First
edition_in None = First
