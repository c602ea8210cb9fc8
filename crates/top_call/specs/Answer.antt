-- What an answer of the top call says: of its outcome, of reads, of faults and of memory.
use Rattle.std.specs.Prelude.{◌≡◌, ◌⊎◌, ℕ, suc, List, [], map, slice_get, Some}
use Rattle.outside.specs.Counts.{HasRisen}
use Rattle.outside.specs.Files.{StoreState}
use Rattle.outside.specs.Sink.{SinkState, Gained, GainedFront}
use Rattle.command_outcome.specs.declared.status.Status.{Status}
use Rattle.command_outcome.specs.declared.status.Status.TheVariants.{Done, ReadFault, WriteFault, NoMemory}
use Rattle.command_outcome.specs.Answer.{IsRefusal}
use Rattle.command_outcome.specs.Texts.{read_line, no_memory_line, write_line}
use Rattle.command_outcome.specs.Refusals.{IsUnreadable}
use Rattle.command_words.specs.Words.{Reading}
use Rattle.command_files.specs.Files.{Contents, HoldEach}
use Rattle.command_files.specs.Reads.{HasReadOf, raises}
use Rattle.top_call.specs.Outcome.{IsOutcome, files_of, reads_of}

-- of the files that the words name
abbrev pub HasRead : Reading → StoreState → StoreState → Type 0
HasRead reading before after = HasReadOf (files_of reading) before after

-- the file is the last that was read of those that the words name
pub record IsLastRead (reading : Reading) (before after : StoreState) (file : List ℕ) : Type 0 where
  pub place : ℕ
  pub named : slice_get (map (λ f. f.name) (files_of reading)) place ≡ Some file
  pub read : after.reads ≡ raises (suc place) before.reads

-- a read fault names the last file that was read
abbrev pub NamesRead : Reading → StoreState → StoreState → Status → List ℕ → Type 0
NamesRead reading before after ReadFault err = (file : List ℕ) × IsLastRead reading before after file × (err ≡ read_line file)
NamesRead reading before after status err = Unit {0}

-- by what the store held before and by its counts after, a status with its texts may be answered: they are the outcome's, and as many
-- files were read as it reads; or the last read failed; or memory was short
pub data IsAllowed (reading : Reading) (before after : StoreState) (status : Status) (out err : List ℕ) : Type 0 where
  outcome : (contents : Contents) → HoldEach before.held (files_of reading) contents → IsOutcome reading contents status out err → after.reads ≡ raises (reads_of reading contents) before.reads → NamesRead reading before after status err → IsAllowed reading before after status out err
  read_fault : (file : List ℕ) → IsLastRead reading before after file → HasRisen before.faults after.faults → IsUnreadable file status out err → IsAllowed reading before after status out err
  no_memory : IsRefusal NoMemory no_memory_line status out err → IsAllowed reading before after status out err

-- the sink gained this text and no fault was counted
pub record Took (before after : SinkState) (text : List ℕ) : Type 0 where
  pub gained : Gained before.contents after.contents text
  pub faultless : after.faults ≡ before.faults

-- the sink gained some first bytes of this text and a fault was counted
pub record Failed (before after : SinkState) (text : List ℕ) : Type 0 where
  pub gained : GainedFront before.contents after.contents text
  pub fault : HasRisen before.faults after.faults

-- the sink gained this text, or some first bytes of it and a fault
abbrev pub TookOrFailed : SinkState → SinkState → List ℕ → Type 0
TookOrFailed before after text = Took before after text ⊎ Failed before after text

-- both sinks took the texts of the status whole
pub record IsWritten (Allowed : List ℕ → List ℕ → Type 0) (out out' err err' : SinkState) : Type 0 where
  pub out_text : List ℕ
  pub err_text : List ℕ
  pub allowed : Allowed out_text err_text
  pub on_out : Took out out' out_text
  pub on_err : Took err err' err_text

-- a write failed: that of the text on `err`, where `out` stays as before, or that of the text on `out`, after which `err` gets `write`
pub data IsUnwritten (Allowed : Status → List ℕ → List ℕ → Type 0) (out out' err err' : SinkState) : Type 0 where
  on_err : (status : Status) (out_text err_text : List ℕ) → Allowed status out_text err_text → Took out out' [] → Failed err err' err_text → IsUnwritten Allowed out out' err err'
  on_out : (out_text : List ℕ) → Allowed Done out_text [] → Failed out out' out_text → TookOrFailed err err' write_line → IsUnwritten Allowed out out' err err'

-- the answer, what it says of both sinks and what caused it
abbrev pub IsAnswer : (Status → List ℕ → List ℕ → Type 0) → Status → SinkState → SinkState → SinkState → SinkState → Type 0
IsAnswer Allowed WriteFault out out' err err' = IsUnwritten Allowed out out' err err'
IsAnswer Allowed status out out' err err' = IsWritten (Allowed status) out out' err err'
