-- What reading a data file answers.
use Rattle.std.specs.Prelude.{◌≡◌, ◌≢◌, ℕ, List, map, filter, Option, Some, None, is_some, Result, Ok, Err}
use Rattle.hl_data.specs.declared.value.Entry.{Entry}
use Rattle.hl_syntax.specs.declared.kinds.TypedName.{TypedName}
use Rattle.serde_json.specs.Data.{Data}
use Rattle.serde_json.specs.Find.{get}
use Rattle.hl_files.specs.declared.refusal.TextRefusal.{TextRefusal}
use Rattle.hl_files.specs.declared.refusal.TextRefusal.TheVariants as refusal
use Rattle.hl_files.specs.declared.refusal.WantedRefusal.{WantedRefusal}
use Rattle.hl_files.specs.declared.refusal.WantedRefusal.TheVariants as wanted
use Rattle.hl_files.specs.Entries.{IsNoEntry, HasValue, HasNoValue, HasOtherType, HasNoValueOf}
use Rattle.hl_files.specs.Objects.{IsObject, IsNoObject}
use Rattle.hl_files.specs.Turns.{Always, InTurn}

-- what holds of the entry of a name
pub record AtName (file : Data) (name : List ℕ) (Claim : Data → Type 0) : Type 0 where
  pub entry : Data
  pub there : get name file ≡ Some entry
  pub holds : Claim entry

-- at a name: no entry, the entry, or what is wrong with it; memory may always be short
abbrev pub FindsAt : Data → List ℕ → Result (Option Entry) TextRefusal → Type 0
FindsAt file name (Ok None) = get name file ≡ None
FindsAt file name (Ok (Some found)) = (found.name ≡ name) × AtName file name (λ entry. HasValue entry found.kind found.value)
FindsAt file name (Err refusal.NotJson) = ⊥
FindsAt file name (Err (refusal.BadEntry bad)) = (bad ≡ name) × AtName file name IsNoEntry
FindsAt file name (Err (refusal.BadValue bad)) = (bad ≡ name) × AtName file name HasNoValue
FindsAt file name (Err refusal.OutOfMemory) = Unit {0}

-- the entries of the names that are there, in the names' order, or what is wrong first
abbrev pub ReadsEntries : List ℕ → List (List ℕ) → Result (List Entry) TextRefusal → Type 0
ReadsEntries text names (Err refusal.NotJson) = IsNoObject text
ReadsEntries text names (Err refusal.OutOfMemory) = Unit {0}
ReadsEntries text names result = (file : Data) × IsObject text file × InTurn (FindsAt file) names result

-- at a wanted name: its entry with the wanted type, or what is wrong first; memory may always be short
abbrev pub WantedAt : Data → TypedName → Result Entry WantedRefusal → Type 0
WantedAt file asked (Ok found) =
    (found.name ≡ asked.name) × (found.kind ≡ asked.kind) × AtName file asked.name (λ entry. HasValue entry asked.kind found.value)
WantedAt file asked (Err wanted.NotJson) = ⊥
WantedAt file asked (Err (wanted.Missing name)) = (name ≡ asked.name) × (get asked.name file ≡ None)
WantedAt file asked (Err (wanted.BadEntry name)) = (name ≡ asked.name) × AtName file asked.name IsNoEntry
WantedAt file asked (Err (wanted.TypeDiffers name)) = (name ≡ asked.name) × AtName file asked.name (λ entry. HasOtherType entry asked.kind)
WantedAt file asked (Err (wanted.BadValue name)) = (name ≡ asked.name) × AtName file asked.name (λ entry. HasNoValueOf entry asked.kind)
WantedAt file asked (Err wanted.OutOfMemory) = Unit {0}

-- an entry for each wanted name, in their order, or what is wrong first
abbrev pub ReadsWanted : List ℕ → List TypedName → Result (List Entry) WantedRefusal → Type 0
ReadsWanted text asked (Err wanted.NotJson) = IsNoObject text
ReadsWanted text asked (Err wanted.OutOfMemory) = Unit {0}
ReadsWanted text asked result = (file : Data) × IsObject text file × InTurn (Always (WantedAt file)) asked result

-- the entries are of those names that the file has, in the names' order
pub record AreNamed (text : List ℕ) (names : List (List ℕ)) (entries : List Entry) : Type 0 where
  pub file : Data
  pub object : IsObject text file
  pub names_are : map (λ entry. entry.name) entries ≡ filter (λ name. is_some (get name file)) names

-- two answers of which none is for want of memory are one
abbrev pub IsOneOf : {A E : Type 0} → E → (Result A E → Type 0) → Type 0
IsOneOf {A} {E} memory AnswersEntry = (r s : Result A E) → AnswersEntry r → AnswersEntry s → r ≢ Err memory → s ≢ Err memory → r ≡ s

abbrev pub IsOneReading : Type 0
IsOneReading = (text : List ℕ) (names : List (List ℕ)) → IsOneOf refusal.OutOfMemory (ReadsEntries text names)

abbrev pub IsOneWantedReading : Type 0
IsOneWantedReading = (text : List ℕ) (asked : List TypedName) → IsOneOf wanted.OutOfMemory (ReadsWanted text asked)

-- an entry's name with its type
abbrev pub typed_name : Entry → TypedName
typed_name entry = record { name = entry.name; kind = entry.kind }
