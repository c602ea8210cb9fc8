-- What reading files answers, and how many reads it makes.
use Rattle.std.specs.Prelude.{◌≡◌, ℕ, zero, suc, ◌≤◌, List, [], ◌∷◌, length, map, slice_get, take, Option, Some, Result, Ok, Err}
use Rattle.std.specs.declared.vec.Vec.{Vec}
use Rattle.outside.specs.Counts.{raised, HasRisen}
use Rattle.outside.specs.Files.{Held, StoreState}
use Rattle.command_outcome.specs.declared.status.Status.{Status}
use Rattle.command_outcome.specs.declared.stop.Stop.{Stop}
use Rattle.command_outcome.specs.Answer.{Never}
use Rattle.command_outcome.specs.Refusals.{IsUnreadable}
use Rattle.command_outcome.specs.Stops.{Stops}
use Rattle.command_files.specs.declared.files.NamedFile.{NamedFile}
use Rattle.command_files.specs.Files.{File, Holds, IsFileRead}

-- a count of reads after so many more
abbrev pub raises : ℕ → ℕ → ℕ
raises zero count = count
raises (suc more) count = raised (raises more count)

-- of these files so many were read, each once, the first ones
pub record HasReadOf (files : List File) (before after : StoreState) : Type 0 where
  pub count : ℕ
  pub within : count ≤ length files
  pub are : after.reads ≡ raises count before.reads

abbrev pub file_of : NamedFile → File
file_of file = record { name = file.name.now; most = file.most; limit = file.limit }

-- a file isn't read: a fault was counted, or it isn't held or is too long
pub data IsUnread (held : Held) (file : File) (faults faults_after : ℕ) (status : Status) (out err : List ℕ) : Type 0 where
  fault : HasRisen faults faults_after → IsUnreadable file.name status out err → IsUnread held file faults faults_after status out err
  refused : (content : Option (List ℕ)) → Holds held file.name content → IsFileRead file content (λ _. Never) status out err → IsUnread held file faults faults_after status out err

-- a file, or why it isn't read, from a store before and after
abbrev pub IsFileFrom : {G : Type 0} → StoreState → StoreState → File → Result (Vec ℕ G) Stop → Type 0
IsFileFrom before after file (Ok bytes) = Holds before.held file.name (Some bytes.items) × (length bytes.items ≤ file.most)
IsFileFrom before after file (Err stop) = Stops (IsUnread before.held file before.faults after.faults) stop

-- files that were read whole
abbrev pub WereRead : Held → List File → List (List ℕ) → Type 0
WereRead held [] [] = Unit {0}
WereRead held (file ∷ files) (bytes ∷ found) = (Holds held file.name (Some bytes) × (length bytes ≤ file.most)) × WereRead held files found
WereRead held files found = ⊥

-- one of some files isn't read, after those before it were
pub record IsFirstUnread (files : List File) (before after : StoreState) (status : Status) (out err : List ℕ) : Type 0 where
  pub place : ℕ
  pub file : File
  pub there : slice_get files place ≡ Some file
  pub found : List (List ℕ)
  pub were : WereRead before.held (take place files) found
  pub reads : after.reads ≡ raises (suc place) before.reads
  pub unread : IsUnread before.held file before.faults after.faults status out err

-- the bytes of files that were read
abbrev pub texts_of : {G : Type 0} → List (Vec ℕ G) → List (List ℕ)
texts_of found = map (λ v. v.items) found

-- files, or why the first of them isn't read that isn't
abbrev pub AreReadFrom : {G : Type 0} → StoreState → StoreState → List File → Result (Vec (Vec ℕ G) G) Stop → Type 0
AreReadFrom before after files (Ok found) = WereRead before.held files (texts_of found.items) × (after.reads ≡ raises (length files) before.reads)
AreReadFrom before after files (Err stop) = Stops (IsFirstUnread files before after) stop
