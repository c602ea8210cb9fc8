-- The steps from the bytes of files to a checked program, and to the entries of its witnesses. Each is given the answer of what
-- comes after it.
use Rattle.std.specs.Prelude.{ℕ, List, [], length, Option, Some, None, unwrap_or, Result, Ok, Err, codes, if◌then◌else◌}
use Rattle.hl_data.specs.declared.value.Entry.{Entry}
use Rattle.hl_files.specs.Params.{param_names}
use Rattle.hl_files.specs.Reads.{ReadsEntries, ReadsWanted}
use Rattle.hl_files.specs.declared.refusal.TextRefusal.{TextRefusal}
use Rattle.hl_files.specs.declared.refusal.TextRefusal.TheVariants as text_refusal
use Rattle.hl_files.specs.declared.refusal.WantedRefusal.{WantedRefusal}
use Rattle.hl_files.specs.declared.refusal.WantedRefusal.TheVariants as wanted_refusal
use Rattle.hl_rules.specs.Places.{is_main}
use Rattle.hl_rules.specs.Programs.{Checked, checked}
use Rattle.hl_syntax.specs.declared.kinds.TypedName.{TypedName}
use Rattle.hl_syntax.specs.declared.tree.Item.{Item}
use Rattle.simplicityhl.specs.Written.{Broken, breaks_rule, breaks_limit}
use Rattle.command_outcome.specs.declared.names.DataCause.TheVariants as causes
use Rattle.command_outcome.specs.declared.names.SourceCause.TheVariants as source_causes
use Rattle.command_outcome.specs.declared.status.Status.{Status}
use Rattle.command_outcome.specs.Answer.{Answer, Never}
use Rattle.command_outcome.specs.Leads.{Step}
use Rattle.command_outcome.specs.Refusals.{IsBroken, IsData, IsPassed}
use Rattle.command_outcome.specs.Source.{IsSource}

-- what is asked of a source: a function, an edition, and the file of the parameters' entries
pub record Asked : Type 0 where
  pub function : List ℕ
  pub edition : ℕ
  pub args : Option (List ℕ)

-- a data file that isn't given counts as an object without entries
abbrev pub object_of : Option (List ℕ) → List ℕ
object_of file = unwrap_or file (codes "{}")

-- Entries for the parameters that stand in the program.

abbrev pub IsBadArgs : TextRefusal → Answer
IsBadArgs text_refusal.NotJson = IsData causes.NotJson (codes "args")
IsBadArgs (text_refusal.BadEntry name) = IsData causes.BadEntry name
IsBadArgs (text_refusal.BadValue name) = IsData causes.BadValue name
IsBadArgs text_refusal.OutOfMemory = Never

abbrev pub AfterArgs : Result (List Entry) TextRefusal → Step (List Entry)
AfterArgs (Ok entries) Next = Next entries
AfterArgs (Err refusal) Next = IsBadArgs refusal

pub record IsArgs (file : List ℕ) (names : List (List ℕ)) (Next : List Entry → Answer) (status : Status) (out err : List ℕ) : Type 0 where
  pub found : Result (List Entry) TextRefusal
  pub read : ReadsEntries file names found
  pub answer : AfterArgs found Next status out err

-- Rules and limits.

abbrev pub IsBadProgram : Broken → Answer
IsBadProgram (breaks_rule rule span) = IsBroken (source_causes.Broken rule) span
IsBadProgram (breaks_limit limit span) = IsPassed limit

abbrev pub AfterRules : Result Checked Broken → Step Checked
AfterRules (Ok program) Next = Next program
AfterRules (Err broken) Next = IsBadProgram broken

-- The source, the entries, the rules.

abbrev pub FromRules : Asked → ℕ → List Item → List Entry → Step Checked
FromRules asked end tree params = AfterRules (checked tree asked.function params asked.edition end)

abbrev pub FromArgs : Asked → ℕ → List Item → Step Checked
FromArgs asked end tree Next = IsArgs (object_of asked.args) (param_names tree) (λ params. FromRules asked end tree params Next)

abbrev pub IsCheckedSource : Asked → List ℕ → Step Checked
IsCheckedSource asked text Next = IsSource text (λ tree. FromArgs asked (length text) tree Next)

-- Entries for the witnesses, of which `main` alone has any.

abbrev pub wanted : List ℕ → Checked → List TypedName
wanted function program = if is_main function then program.witnesses else []

abbrev pub IsBadWitnesses : WantedRefusal → Answer
IsBadWitnesses wanted_refusal.NotJson = IsData causes.NotJson (codes "wit")
IsBadWitnesses (wanted_refusal.Missing name) = IsData causes.Missing name
IsBadWitnesses (wanted_refusal.BadEntry name) = IsData causes.BadEntry name
IsBadWitnesses (wanted_refusal.TypeDiffers name) = IsData causes.TypeDiffers name
IsBadWitnesses (wanted_refusal.BadValue name) = IsData causes.BadValue name
IsBadWitnesses wanted_refusal.OutOfMemory = Never

abbrev pub AfterWitnesses : Result (List Entry) WantedRefusal → Step (List Entry)
AfterWitnesses (Ok entries) Next = Next entries
AfterWitnesses (Err refusal) Next = IsBadWitnesses refusal

pub record IsWitnesses (file : List ℕ) (names : List TypedName) (Next : List Entry → Answer) (status : Status) (out err : List ℕ) : Type 0 where
  pub found : Result (List Entry) WantedRefusal
  pub read : ReadsWanted file names found
  pub answer : AfterWitnesses found Next status out err

-- where no file is given, no entry is asked for
abbrev pub IsGivenWitnesses : Option (List ℕ) → List TypedName → Step (Option (List Entry))
IsGivenWitnesses None names Next = Next None
IsGivenWitnesses (Some file) names Next = IsWitnesses file names (λ entries. Next (Some entries))
