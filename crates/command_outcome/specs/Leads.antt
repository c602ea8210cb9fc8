-- Steps of a command, each with the answer of what comes after it left open.
use Rattle.std.specs.Prelude.{◌≡◌, ℕ, List, Result, Ok, Err}
use Rattle.command_outcome.specs.declared.status.Status.{Status}
use Rattle.command_outcome.specs.declared.stop.Stop.{Stop}
use Rattle.command_outcome.specs.Answer.{Answer, Never}
use Rattle.command_outcome.specs.Stops.{Stops}

-- a step: its answers, given those to what it finds
abbrev pub Step : Type 0 → Type 1
Step X = (X → Answer) → Answer

-- to this and nothing else there are answers, and all are
abbrev pub Exactly : {X : Type 0} → X → X → Answer
Exactly x found status out err = found ≡ x

-- the step goes on with what was found, whatever is answered after it; or it refuses; or memory was short
abbrev pub Leads : {X : Type 0} → Step X → Result X Stop → Type 0
Leads step (Ok x) = (status : Status) (out err : List ℕ) → step (Exactly x) status out err
Leads step (Err stop) = Stops (step (λ _. Never)) stop
