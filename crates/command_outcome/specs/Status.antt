-- The exit status of each answer.
use Rattle.std.specs.Prelude.{ℕ}
use Rattle.command_outcome.specs.declared.status.Status.{Status}
use Rattle.command_outcome.specs.declared.status.Status.TheVariants.{Done, SourceRefused, WordsRefused, ProgramFailed, ReadFault, WriteFault, NoMemory, BitsRefused, DataRefused, LimitReached}

abbrev pub number_of : Status → ℕ
number_of Done = 0
number_of SourceRefused = 1
number_of WordsRefused = 2
number_of ProgramFailed = 3
number_of ReadFault = 4
number_of WriteFault = 5
number_of NoMemory = 6
number_of BitsRefused = 7
number_of DataRefused = 8
number_of LimitReached = 9
