-- What the code built.
use Rattle.std.specs.Prelude.{◌≡◌, ℕ, List, Some, string_bytes}
use Rattle.small_source.specs.Small.{Small, IsSmall}
use Rattle.small_terms.specs.Result.{first_unknown}
use Rattle.top_call.specs.declared.build.Built.{Built}
use Rattle.top_call.specs.declared.build.Built.TheVariants.{Line, UnknownName, NotSmall}
use Rattle.top_call.specs.Build.{IsBuild, IsLine}

-- of a function
abbrev pub IsBuiltOf : Small → Built → Type 0
IsBuiltOf f (Line line) = IsLine f (string_bytes line)
IsBuiltOf f (UnknownName start length) = first_unknown f.parameters f.body ≡ Some (start, length)
IsBuiltOf f NotSmall = ⊥

-- a name of the function is no parameter
pub record HasUnknown (text asked : List ℕ) (start length : ℕ) : Type 0 where
  pub function : Small
  pub small : IsSmall text asked function
  pub unknown : first_unknown function.parameters function.body ≡ Some (start, length)

-- of a text
abbrev pub IsBuilt : List ℕ → List ℕ → Built → Type 0
IsBuilt text asked (Line line) = IsBuild text asked (string_bytes line)
IsBuilt text asked (UnknownName start length) = HasUnknown text asked start length
IsBuilt text asked NotSmall = (f : Small) → ¬ IsSmall text asked f
