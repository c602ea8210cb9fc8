-- Which calls are planned to fail, and what such a call keeps of its piece.
use Rattle.std.specs.Prelude.{◌≡◌, ◌≢◌, ℕ, Some, min, List, length, take, find, Option, option_map, unwrap_or, ◌==◌}
use Rattle.std.specs.Option.{option_or}
use Rattle.outside.specs.declared.memory_sink.PlannedFault.{PlannedFault}

-- how many bytes the first plan for a call of this number keeps
abbrev pub kept_in : List PlannedFault → ℕ → Option ℕ
kept_in plans call = option_map (λ plan. plan.kept) (find (λ plan. plan.call == call) plans)

-- what is kept of a piece: no more than was planned, than there is room for, or than the piece has
abbrev pub kept_of : Option ℕ → ℕ → List ℕ → List ℕ
kept_of planned room piece = take (min (min (unwrap_or planned room) room) (length piece)) piece

-- this call is planned to fail, as before where it already was, and the others as before
pub record AddsPlan (old new : ℕ → Option ℕ) (call kept : ℕ) : Type 0 where
  pub added : new call ≡ option_or (old call) (Some kept)
  pub others : (other : ℕ) → other ≢ call → new other ≡ old other
