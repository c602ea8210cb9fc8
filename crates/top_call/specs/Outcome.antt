-- The outcome of a command: its status and its texts, by its words and by the files that they name.
use Rattle.std.specs.Prelude.{◌≡◌, ℕ, ◌+◌, List, [], ◌∷◌, ◌++◌, Option, Some, None}
use Rattle.hl_syntax.specs.declared.rules.Rule.TheVariants.{K4}
use Rattle.small_source.specs.Small.{Small, IsSmall}
use Rattle.small_terms.specs.Result.{first_unknown}
use Rattle.command_outcome.specs.declared.names.SourceCause.TheVariants.{Broken, NotYet}
use Rattle.command_outcome.specs.declared.status.Status.{Status}
use Rattle.command_outcome.specs.Answer.{Answer, Never, IsDone, IsOne, IsOneWhole}
use Rattle.command_outcome.specs.Refusals.{IsMisfit, IsRefusedAt}
use Rattle.command_outcome.specs.Source.{IsSource}
use Rattle.command_words.specs.Editions.{number_of}
use Rattle.command_words.specs.Words.{Evaluation, Reading, BuildOf, EvalOf, Misfit}
use Rattle.eval_command.specs.Evaluation.{Given, IsEvaluation}
use Rattle.top_call.specs.Build.{IsBuild}
use Rattle.command_files.specs.Files.{AreRead, Contents, File, after_named, data_file, next_named, reads_in, source_file}

-- of a text that is a program
pub data IsSmallOutcome (text asked : List ℕ) (status : Status) (out err : List ℕ) : Type 0 where
  not_small : ((f : Small) → ¬ IsSmall text asked f) → IsRefusedAt NotYet 0 0 status out err → IsSmallOutcome text asked status out err
  unknown_name : (f : Small) (start count : ℕ) → IsSmall text asked f → first_unknown f.parameters f.body ≡ Some (start, count) → IsRefusedAt (Broken K4) start (start + count) status out err → IsSmallOutcome text asked status out err
  built : (line : List ℕ) → IsBuild text asked line → IsDone line status out err → IsSmallOutcome text asked status out err

abbrev pub IsBuildOutcome : List ℕ → List ℕ → Answer
IsBuildOutcome asked text = IsSource text (λ tree. IsSmallOutcome text asked)

abbrev pub given : Evaluation → Option (List ℕ) → Option (List ℕ) → Given
given asked args witness = record { asked = record { function = asked.function; edition = number_of asked.edition; args = args }; witness = witness; input = asked.input }

-- the files that the words name, in the order in which they are read
abbrev pub if_named : Option (List ℕ) → List File
if_named None = []
if_named (Some name) = data_file name ∷ []

abbrev pub files_of : Reading → List File
files_of (BuildOf file asked) = source_file file ∷ []
files_of (EvalOf asked) = source_file asked.file ∷ (if_named asked.args ++ if_named asked.witness)
files_of (Misfit index) = []

-- of the files after the source, which were read
abbrev pub IsEvalOutcome : Evaluation → List ℕ → List (List ℕ) → Answer
IsEvalOutcome asked source found = IsEvaluation (given asked (next_named asked.args found) (next_named asked.witness (after_named asked.args found))) source

-- of the files that the words name, which were read
abbrev pub AfterFiles : Reading → List (List ℕ) → Answer
AfterFiles (Misfit index) found = IsMisfit index
AfterFiles (BuildOf file asked) [] = Never
AfterFiles (BuildOf file asked) (source ∷ found) = IsBuildOutcome asked source
AfterFiles (EvalOf asked) [] = Never
AfterFiles (EvalOf asked) (source ∷ found) = IsEvalOutcome asked source found

-- what the words ask for and what the files hold, one beside each that they name, give this status, this text on `out` and this one
-- on `err`
abbrev pub IsOutcome : Reading → Contents → Answer
IsOutcome reading contents = AreRead (files_of reading) contents (AfterFiles reading)

-- how many of the files that the words name are read, the first ones
abbrev pub reads_of : Reading → Contents → ℕ
reads_of reading contents = reads_in (files_of reading) contents

-- there is one status, and one text on `err`
abbrev pub OutcomeIsOne : Type 0
OutcomeIsOne = (reading : Reading) (contents : Contents) → IsOne (IsOutcome reading contents)

-- of an evaluation there is one text on `out` too
abbrev pub EvalOutcomeIsOne : Type 0
EvalOutcomeIsOne = (asked : Evaluation) (contents : Contents) → IsOneWhole (IsOutcome (EvalOf asked) contents)
