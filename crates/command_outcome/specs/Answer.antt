-- Answers of a command: a status with its text on `out` and its text on `err`.
use Rattle.std.specs.Prelude.{◌≡◌, ℕ, List, []}
use Rattle.command_outcome.specs.declared.status.Status.{Status}
use Rattle.command_outcome.specs.declared.status.Status.TheVariants.{Done, ReadFault, WriteFault, NoMemory}

abbrev pub Answer : Type 1
Answer = Status → List ℕ → List ℕ → Type 0

-- no answer
abbrev pub Never : Answer
Never status out err = ⊥

-- it is this status with this line on `err` and nothing on `out`
pub record IsRefusal (refused : Status) (line : List ℕ) (status : Status) (out err : List ℕ) : Type 0 where
  pub status_is : status ≡ refused
  pub nothing : out ≡ []
  pub line_is : err ≡ line

-- it is Done with this text on `out` and nothing on `err`
pub record IsDone (text : List ℕ) (status : Status) (out err : List ℕ) : Type 0 where
  pub status_is : status ≡ Done
  pub text_is : out ≡ text
  pub nothing : err ≡ []

-- there is one status and one text on `err`, and one such part of the text on `out`
abbrev pub IsOneIn : (List ℕ → List ℕ) → Answer → Type 0
IsOneIn part A = (s t : Status) (o p e f : List ℕ) → A s o e → A t p f → (s ≡ t) × ((part o ≡ part p) × (e ≡ f))

-- there is one status, one text on `out` and one text on `err`
abbrev pub IsOneWhole : Answer → Type 0
IsOneWhole A = IsOneIn (λ out. out) A

-- there is one status and one text on `err`
abbrev pub IsOne : Answer → Type 0
IsOne A = (s t : Status) (o p e f : List ℕ) → A s o e → A t p f → (s ≡ t) × (e ≡ f)

-- a status that tells of what the words and files are, and not of faults or of memory
abbrev pub IsSettled : Status → Type 0
IsSettled ReadFault = ⊥
IsSettled WriteFault = ⊥
IsSettled NoMemory = ⊥
IsSettled status = Unit {0}

abbrev pub AreSettled : Answer → Type 0
AreSettled A = (s : Status) (o e : List ℕ) → A s o e → IsSettled s
