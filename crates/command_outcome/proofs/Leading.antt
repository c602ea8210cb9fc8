-- Steps, one after the other.
use Rattle.std.proofs.Common.{◌≡◌, ℕ, List, length, Result, Ok, Err, refl, sym, subst}
use Rattle.std.specs.declared.string.String.{String}
use Rattle.hl_syntax.specs.declared.tree.Item.{Item}
use Rattle.simplicityhl.specs.Tokens.{Lexed, tokens}
use Rattle.command_outcome.specs.declared.status.Status.{Status}
use Rattle.command_outcome.specs.declared.stop.Stop.{Stop}
use Rattle.command_outcome.specs.Answer.{Answer, Never}
use Rattle.command_outcome.specs.Leads.{Step, Exactly, Leads}
use Rattle.command_outcome.specs.Source.{IsLexed, IsSource, too_deep, syntax, parsed, not_utf8, is_text}
use Rattle.command_outcome.specs.Stops.{GivesLine, IsRead, Stops}
use Rattle.command_outcome.proofs.OneSource.{read_source}
use Rattle.command_outcome.proofs.Stopping.{gives_in, stops_in}

-- where an answer to what a step finds is another such answer too, it is so of the step's
abbrev pub Grows : {X : Type 0} → Step X → Type 1
Grows {X} step = (A B : X → Answer) (s : Status) (o e : List ℕ) → ((x : X) → A x s o e → B x s o e) → step A s o e → step B s o e

-- an answer to what was found is one of the step
pub led : {X : Type 0} (step : Step X) (Next : X → Answer) (x : X) → Grows step → Leads step (Ok x) → (s : Status) (o e : List ℕ) → Next x s o e → step Next s o e
led step Next x grows leads s o e a = grows (Exactly x) Next s o e (λ y is. subst (λ z. Next z s o e) (sym is) a) (leads s o e)

-- refusals of a step come whatever comes after it
pub stopped : {X : Type 0} (step : Step X) (Next : X → Answer) (stop : Stop) → Grows step → Leads step (Err stop) → Stops (step Next) stop
stopped step Next stop grows is = stops_in (step (λ _. Never)) (step Next) stop (λ s o e a. grows (λ _. Never) Next s o e (λ x no. absurd no) a) is

-- the line of what comes after a step
pub led_line : {X G : Type 0} (step : Step X) (Next : X → Answer) (x : X) (r : Result (String G) Stop) → Grows step → Leads step (Ok x) → GivesLine (Next x) r → GivesLine (step Next) r
led_line step Next x r grows leads given = gives_in (Next x) (step Next) r (led step Next x grows leads) given

-- two steps, the second by what the first found
abbrev pub Then : {X Y : Type 0} → Step X → (X → Step Y) → Step Y
Then first second Next = first (λ x. second x Next)

pub led_then : {X Y : Type 0} (first : Step X) (second : X → Step Y) (x : X) (r : Result Y Stop) → Grows first → Leads first (Ok x) → Leads (second x) r → Leads (Then first second) r
led_then first second x (Ok y) grows leads then = λ s o e. led first (λ z. second z (Exactly y)) x grows leads s o e (then s o e)
led_then first second x (Err stop) grows leads then = stops_in (second x (λ _. Never)) (Then first second (λ _. Never)) stop (led first (λ z. second z (λ _. Never)) x grows leads) then

pub stopped_then : {X Y : Type 0} (first : Step X) (second : X → Step Y) (stop : Stop) → Grows first → Leads first (Err stop) → Leads {X = Y} (Then first second) (Err stop)
stopped_then first second stop grows is = stopped first (λ x. second x (λ _. Never)) stop grows is

pub grows_then : {X Y : Type 0} (first : Step X) (second : X → Step Y) → Grows first → ((x : X) → Grows (second x)) → Grows (Then first second)
grows_then first second grows each A B s o e more a = grows (λ x. second x A) (λ x. second x B) s o e (λ x b. each x A B s o e more b) a

-- The source.
grows_lexed : (lexed : Lexed) (end : ℕ) → Grows (IsLexed lexed end)
grows_lexed (Ok found) end A B s o e more (too_deep at d a) = too_deep at d a
grows_lexed (Ok found) end A B s o e more (syntax at x a) = syntax at x a
grows_lexed (Ok found) end A B s o e more (parsed tree is a) = parsed tree is (more tree a)
grows_lexed (Err r) end A B s o e more a = a

pub grows_source : (text : List ℕ) → Grows (IsSource text)
grows_source text A B s o e more (not_utf8 i valid a) = not_utf8 i valid a
grows_source text A B s o e more (is_text utf8 a) = is_text utf8 (grows_lexed (tokens text) (length text) A B s o e more a)

pub source_leads : (text : List ℕ) (r : Result (List Item) Stop) → IsRead text r → Leads (IsSource text) r
source_leads text (Ok tree) is = λ s o e. read_source (Exactly tree) text tree s o e is refl
source_leads text (Err stop) is = is
