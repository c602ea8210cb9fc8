-- The opener and the counts of the files of the system, of which nothing is told.
use Rattle.std.specs.Prelude.{ℕ, None}
use Rattle.outside.specs.Files.{StoreState}
use Rattle.outside.specs.declared.host_files.HostFiles.{HostFiles}

-- what opens the files
abbrev pub opener_of : {R : Type 0} → HostFiles R → R
opener_of files = files.opener

-- how many calls of `read` there were
abbrev pub read_count : {R : Type 0} → HostFiles R → ℕ
read_count files = files.reads

-- how many of them failed
abbrev pub fault_count : {R : Type 0} → HostFiles R → ℕ
fault_count files = files.faults

-- it tells nothing that it holds
abbrev pub state_of : {R : Type 0} → HostFiles R → StoreState
state_of files = record { held = None; reads = files.reads; faults = files.faults }
