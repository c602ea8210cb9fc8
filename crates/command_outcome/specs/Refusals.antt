-- Refusals as answers: each kind with its status and its line.
use Rattle.std.specs.Prelude.{ℕ, List}
use Rattle.hl_syntax.specs.declared.rules.Limit.{Limit}
use Rattle.hl_syntax.specs.declared.token.Span.{Span}
use Rattle.command_outcome.specs.declared.names.DataCause.{DataCause}
use Rattle.command_outcome.specs.declared.names.SourceCause.{SourceCause}
use Rattle.command_outcome.specs.declared.status.Status.TheVariants.{DataRefused, LimitReached, ProgramFailed, ReadFault, SourceRefused, WordsRefused}
use Rattle.command_outcome.specs.Answer.{Answer, IsRefusal}
use Rattle.command_outcome.specs.Texts.{data_line, failed_line, limit_line, read_line, source_line, words_line}

-- the word at this place doesn't fit
abbrev pub IsMisfit : ℕ → Answer
IsMisfit index = IsRefusal WordsRefused (words_line index)

-- the file of this name isn't read
abbrev pub IsUnreadable : List ℕ → Answer
IsUnreadable file = IsRefusal ReadFault (read_line file)

-- the source is refused, from a byte up to another
abbrev pub IsRefusedAt : SourceCause → ℕ → ℕ → Answer
IsRefusedAt cause start end = IsRefusal SourceRefused (source_line cause start end)

-- the source is refused at a span
abbrev pub IsBroken : SourceCause → Span → Answer
IsBroken cause span = IsRefusedAt cause span.start span.end

-- a limit is passed
abbrev pub IsPassed : Limit → Answer
IsPassed limit = IsRefusal LimitReached (limit_line limit)

-- something is wrong with an entry, a file or a word of this name
abbrev pub IsData : DataCause → List ℕ → Answer
IsData cause name = IsRefusal DataRefused (data_line cause name)

-- the program fails
abbrev pub IsFailure : Answer
IsFailure = IsRefusal ProgramFailed failed_line
