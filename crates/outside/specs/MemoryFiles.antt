-- What files in memory hold, and which of their calls fail.
use Rattle.std.specs.Prelude.{◌≡◌, ◌≢◌, ℕ, Bool, List, find, Option, Some, option_map, string_bytes, bytes_eq}
use Rattle.outside.specs.Files.{StoreState}
use Rattle.outside.specs.declared.memory_files.HeldFile.{HeldFile}
use Rattle.outside.specs.declared.memory_files.MemoryFiles.{MemoryFiles}

-- a file has this name
abbrev pub has_name : List ℕ → HeldFile → Bool
has_name name file = bytes_eq (string_bytes file.name) name

-- the bytes of the first file of this name
abbrev pub bytes_in : List HeldFile → List ℕ → Option (List ℕ)
bytes_in files name = option_map (λ file. file.bytes.items) (find (has_name name) files)

-- the bytes of the file of this name, if one is held
abbrev pub file_of : MemoryFiles → List ℕ → Option (List ℕ)
file_of store = bytes_in store.files.items

-- the numbers of the calls of `read` that are to fail
abbrev pub failing_calls : MemoryFiles → List ℕ
failing_calls store = store.failing.items

-- how many calls of `read` there were
abbrev pub read_count : MemoryFiles → ℕ
read_count store = store.reads

-- how many of them failed
abbrev pub fault_count : MemoryFiles → ℕ
fault_count store = store.faults

-- it tells all that it holds
abbrev pub state_of : MemoryFiles → StoreState
state_of store = record { held = Some (file_of store); reads = read_count store; faults = fault_count store }

-- a file is held at this name, and the other names are as before
pub record HoldsAt (old new : List ℕ → Option (List ℕ)) (name bytes : List ℕ) : Type 0 where
  pub held : new name ≡ Some bytes
  pub others : (other : List ℕ) → other ≢ name → new other ≡ old other

-- the same calls were made, and the same ones are to fail
pub record SameCalls (old new : MemoryFiles) : Type 0 where
  pub failing : failing_calls new ≡ failing_calls old
  pub reads : read_count new ≡ read_count old
  pub faults : fault_count new ≡ fault_count old
