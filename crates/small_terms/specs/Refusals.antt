-- What a refusal says.
use Rattle.std.specs.Prelude.{◌≡◌, ℕ, List, Some}
use Rattle.small_source.specs.Small.{SmallBody}
use Rattle.small_terms.specs.Result.{first_unknown}
use Rattle.small_terms.specs.declared.build.BuildRefusal.{BuildRefusal}
use Rattle.small_terms.specs.declared.build.BuildRefusal.TheVariants.{UnknownName, OutOfMemory}

-- the first name of the body that is no parameter stands there, or memory ran out
abbrev pub IsUnknown : List (List ℕ) → SmallBody → BuildRefusal → Type 0
IsUnknown parameters body (UnknownName start length) = first_unknown parameters body ≡ Some (start, length)
IsUnknown parameters body OutOfMemory = Unit {0}
