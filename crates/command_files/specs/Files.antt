-- Files that are read one after the other, up to the first that isn't read, and what they hold.
use Rattle.std.specs.Prelude.{◌≡◌, ℕ, suc, ◌<◌, ◌≤◌, nat_le, List, [], ◌∷◌, length, Option, Some, None, IsSome, if◌then◌else◌}
use Rattle.hl_syntax.specs.declared.rules.Limit.{Limit}
use Rattle.hl_syntax.specs.declared.rules.Limit.TheVariants.{L1, L10}
use Rattle.command_outcome.specs.declared.status.Status.{Status}
use Rattle.command_outcome.specs.Answer.{Answer, Never}
use Rattle.command_outcome.specs.Leads.{Step}
use Rattle.command_outcome.specs.Refusals.{IsPassed, IsUnreadable}
use Rattle.outside.specs.Files.{Held}

-- the greatest source and the greatest data file, in bytes
abbrev pub most_source : ℕ
most_source = 262144

abbrev pub most_data : ℕ
most_data = 1048576

-- a file that is read: its name, and how many bytes it may have, which a limit says
pub record File : Type 0 where
  pub name : List ℕ
  pub most : ℕ
  pub limit : Limit

abbrev pub source_file : List ℕ → File
source_file name = record { name = name; most = most_source; limit = L1 }

abbrev pub data_file : List ℕ → File
data_file name = record { name = name; most = most_data; limit = L10 }

-- what files hold, one beside each file
abbrev pub Contents : Type 0
Contents = List (Option (List ℕ))

-- what a named file holds: what is told, and where nothing is told some bytes
abbrev pub Holds : Held → List ℕ → Option (List ℕ) → Type 0
Holds (Some contents_of) name content = contents_of name ≡ content
Holds None name content = IsSome content

-- and what each of some files holds
abbrev pub HoldEach : Held → List File → Contents → Type 0
HoldEach held [] [] = Unit {0}
HoldEach held (file ∷ files) (content ∷ contents) = Holds held file.name content × HoldEach held files contents
HoldEach held files contents = ⊥

-- of a file by what it holds: there is none, or it is longer than the limit, or its bytes decide
pub data IsFileRead (file : File) (content : Option (List ℕ)) (Next : List ℕ → Answer) (status : Status) (out err : List ℕ) : Type 0 where
  not_held : content ≡ None → IsUnreadable file.name status out err → IsFileRead file content Next status out err
  too_long : (bytes : List ℕ) → content ≡ Some bytes → file.most < length bytes → IsPassed file.limit status out err → IsFileRead file content Next status out err
  whole : (bytes : List ℕ) → content ≡ Some bytes → length bytes ≤ file.most → Next bytes status out err → IsFileRead file content Next status out err

-- of files, one after the other
abbrev pub AreRead : List File → Contents → Step (List (List ℕ))
AreRead [] contents Next = Next []
AreRead (file ∷ files) [] Next = Never
AreRead (file ∷ files) (content ∷ contents) Next = IsFileRead file content (λ bytes. AreRead files contents (λ found. Next (bytes ∷ found)))

-- how many files are read: none after one that is not held or longer than the limit
abbrev pub reads_in : List File → Contents → ℕ
reads_in [] contents = 0
reads_in (file ∷ files) [] = 0
reads_in (file ∷ files) (None ∷ contents) = 1
reads_in (file ∷ files) (Some bytes ∷ contents) = suc (if nat_le (length bytes) file.most then reads_in files contents else 0)

-- of files that were read, that of a word that may name one, and those after it
abbrev pub next_named : Option (List ℕ) → List (List ℕ) → Option (List ℕ)
next_named None found = None
next_named (Some name) [] = None
next_named (Some name) (bytes ∷ found) = Some bytes

abbrev pub after_named : Option (List ℕ) → List (List ℕ) → List (List ℕ)
after_named None found = found
after_named (Some name) [] = []
after_named (Some name) (bytes ∷ found) = found
