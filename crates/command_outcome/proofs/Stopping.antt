-- Refusals as answers.
use Rattle.std.proofs.Common.{◌≡◌, ℕ, List, Result, Ok, Err, IsErrAnd, sym, subst}
use Rattle.std.specs.declared.string.String.{String}
use Rattle.command_outcome.specs.declared.status.Status.{Status}
use Rattle.command_outcome.specs.declared.stop.Stop.{Stop}
use Rattle.command_outcome.specs.declared.stop.Stop.TheVariants.{Refused, OutOfMemory}
use Rattle.command_outcome.specs.Answer.{Answer}
use Rattle.command_outcome.specs.Stops.{GivesLine, Stops}

-- an answer of one relation is one of another that has all of its answers
pub stops_in : (A B : Answer) (stop : Stop) → ((s : Status) (o e : List ℕ) → A s o e → B s o e) → Stops A stop → Stops B stop
stops_in A B (Refused answer text) has is = has _ _ _ is
stops_in A B OutOfMemory has is = tt

-- a text or a refusal of one relation is one of another that has all its answers
pub gives_in : {G : Type 0} (A B : Answer) (r : Result (String G) Stop) → ((s : Status) (o e : List ℕ) → A s o e → B s o e) → GivesLine A r → GivesLine B r
gives_in A B (Ok text) has is = has _ _ _ is
gives_in A B (Err stop) has is = stops_in A B stop has is

-- a refusal that is handed on as it is
pub handed_on : {G : Type 0} (A : Answer) (r : Result (String G) Stop) (stop : Stop) → Stops A stop → IsErrAnd r (λ (other : Stop). other ≡ stop) → GivesLine A r
handed_on A (Ok text) stop is same = absurd same
handed_on A (Err other) stop is same = subst (λ (x : Stop). Stops A x) (sym same) is
