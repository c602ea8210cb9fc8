-- The answers to a program as a small source.
use Rattle.std.proofs.Common.{◌≡◌, ℕ, ◌+◌, List, [], Option, Some, None, Result, refl, sym, ap, ◌∙◌}
use Rattle.std.specs.declared.string.String.{String}
use Rattle.hl_syntax.specs.declared.tree.Item.{Item}
use Rattle.hl_syntax.specs.declared.rules.Rule.TheVariants.{K4}
use Rattle.small_source.specs.Small.{Small, IsSmall}
use Rattle.small_source.proofs.Complete.{one_function}
use Rattle.small_terms.specs.Result.{Span, first_unknown}
use Rattle.command_outcome.specs.declared.names.SourceCause.TheVariants.{Broken, NotYet}
use Rattle.command_outcome.specs.declared.status.Status.TheVariants.{Done}
use Rattle.command_outcome.specs.declared.stop.Stop.{Stop}
use Rattle.command_outcome.specs.Answer.{IsOneIn, AreSettled, Never}
use Rattle.command_outcome.specs.Refusals.{IsRefusedAt}
use Rattle.command_outcome.specs.Source.{IsProgram, IsSource}
use Rattle.command_outcome.specs.Stops.{GivesLine, Stops}
use Rattle.command_outcome.specs.Texts.{source_line}
use Rattle.command_outcome.proofs.OneSource.{one_refusal, same_refusal, settled_refusal, settled_done, settled_source, further_source, read_source}
use Rattle.command_outcome.proofs.Stopping.{stops_in, gives_in}
use Rattle.top_call.specs.Build.{IsBuild}
use Rattle.top_call.specs.Built.{HasUnknown}
use Rattle.top_call.specs.Outcome.{IsBuildOutcome, IsSmallOutcome, not_small, unknown_name, built}

settled_small : (text asked : List ℕ) → AreSettled (IsSmallOutcome text asked)
settled_small text asked s o e (not_small none a) = settled_refusal _ _ tt s o e a
settled_small text asked s o e (unknown_name f start count small unknown a) = settled_refusal _ _ tt s o e a
settled_small text asked s o e (built line build a) = settled_done _ s o e a

pub settled_build : (asked text : List ℕ) → AreSettled (IsBuildOutcome asked text)
settled_build asked text s o e a = settled_source (λ tree. IsSmallOutcome text asked) (λ tree. settled_small text asked) text s o e a

-- the names that a small source doesn't know are those of its one function
same_unknown : (text asked : List ℕ) (f g : Small) → IsSmall text asked f → IsSmall text asked g → first_unknown f.parameters f.body ≡ first_unknown g.parameters g.body
same_unknown text asked f g a b = ap (λ (h : Small). first_unknown h.parameters h.body) (one_function text asked f g a b)

start_of : Option Span → ℕ
start_of None = 0
start_of (Some span) = span.0

count_of : Option Span → ℕ
count_of None = 0
count_of (Some span) = span.1

same_line : (i m j n : ℕ) → ◌≡◌ {A = Option Span} (Some (i, m)) (Some (j, n)) → source_line (Broken K4) i (i + m) ≡ source_line (Broken K4) j (j + n)
unfolding start_of count_of
same_line i m j n same =
    let starts : i ≡ j = ap start_of same in
    let counts : m ≡ n = ap count_of same in
    rw (starts, counts) refl

pub one_small : (text asked : List ℕ) → IsOneIn (λ _. []) (IsSmallOutcome text asked)
one_small text asked s t o p e f (not_small none a) (not_small none' b) = one_refusal (λ _. []) _ _ s t o p e f a b
one_small text asked s t o p e f (not_small none a) (unknown_name g j n small unknown b) = absurd (none g small)
one_small text asked s t o p e f (not_small none a) (built line build b) = absurd (none build.function build.small)
one_small text asked s t o p e f (unknown_name g i m small unknown a) (not_small none b) = absurd (none g small)
one_small text asked s t o p e f (unknown_name g i m small unknown a) (unknown_name h j n small' unknown' b) =
    let same : ◌≡◌ {A = Option Span} (Some (i, m)) (Some (j, n)) = sym unknown ∙ same_unknown text asked g h small small' ∙ unknown' in
    same_refusal (λ _. []) _ _ _ (same_line i m j n same) s t o p e f a b
one_small text asked s t o p e f (unknown_name g i m small unknown a) (built line build b) =
    let same = sym unknown ∙ same_unknown text asked g build.function small build.small ∙ build.lined.known in
    absurd (cc)
one_small text asked s t o p e f (built line build a) (not_small none b) = absurd (none build.function build.small)
one_small text asked s t o p e f (built line build a) (unknown_name g j n small unknown b) =
    let same = sym unknown ∙ same_unknown text asked g build.function small build.small ∙ build.lined.known in
    absurd (cc)
one_small text asked s t o p e f (built line build a) (built line' build' b) = (a.status_is ∙ sym b.status_is, (refl, a.nothing ∙ sym b.nothing))

-- what the code answers
pub unknown_stops : (text asked : List ℕ) (start count : ℕ) (stop : Stop) → HasUnknown text asked start count → Stops (IsRefusedAt (Broken K4) start (start + count)) stop → Stops (IsSmallOutcome text asked) stop
unknown_stops text asked start count stop has is = stops_in (IsRefusedAt (Broken K4) start (start + count)) (IsSmallOutcome text asked) stop (λ s o e a. unknown_name has.function start count has.small has.unknown a) is

pub no_small_stops : (text asked : List ℕ) (stop : Stop) → ((f : Small) → ¬ IsSmall text asked f) → Stops (IsRefusedAt NotYet 0 0) stop → Stops (IsSmallOutcome text asked) stop
no_small_stops text asked stop none is = stops_in (IsRefusedAt NotYet 0 0) (IsSmallOutcome text asked) stop (λ s o e a. not_small none a) is

pub line_given : (text asked line : List ℕ) → IsBuild text asked line → IsSmallOutcome text asked Done line []
line_given text asked line is = built line is (record { status_is = refl; text_is = refl; nothing = refl })

pub build_read : {G : Type 0} (asked text : List ℕ) (tree : List Item) (r : Result (String G) Stop) → IsProgram text tree → GivesLine (IsSmallOutcome text asked) r → GivesLine (IsBuildOutcome asked text) r
build_read asked text tree r is given = gives_in (IsSmallOutcome text asked) (IsBuildOutcome asked text) r (λ s o e a. read_source (λ _. IsSmallOutcome text asked) text tree s o e is a) given

pub build_stops : (asked text : List ℕ) (stop : Stop) → Stops (IsSource text (λ _. Never)) stop → Stops (IsBuildOutcome asked text) stop
build_stops asked text stop is = stops_in (IsSource text (λ _. Never)) (IsBuildOutcome asked text) stop (further_source (λ tree. IsSmallOutcome text asked) text) is
