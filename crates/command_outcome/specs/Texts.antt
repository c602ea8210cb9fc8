-- The lines that are written, each with its line feed.
use Rattle.std.specs.Prelude.{ℕ, List, [], ◌∷◌, ◌++◌, codes}
use Rattle.std.specs.Fmt.{decimal}
use Rattle.hl_syntax.specs.declared.rules.Limit.{Limit}
use Rattle.command_outcome.specs.declared.names.DataCause.{DataCause}
use Rattle.command_outcome.specs.declared.names.SourceCause.{SourceCause}
use Rattle.command_outcome.specs.Names.{data_cause, limit_name, source_cause}

abbrev pub words_line : ℕ → List ℕ
words_line index = codes "words at " ++ (decimal index ++ 10 ∷ [])

abbrev pub read_line : List ℕ → List ℕ
read_line file = codes "read " ++ (file ++ 10 ∷ [])

abbrev pub limit_line : Limit → List ℕ
limit_line limit = codes "limit " ++ (limit_name limit ++ 10 ∷ [])

-- why a source is refused, from a byte up to another
abbrev pub source_line : SourceCause → ℕ → ℕ → List ℕ
source_line cause start end = codes "source " ++ (source_cause cause ++ (codes " at " ++ (decimal start ++ (codes ".." ++ (decimal end ++ 10 ∷ [])))))

abbrev pub no_memory_line : List ℕ
no_memory_line = codes "no memory\n"

abbrev pub write_line : List ℕ
write_line = codes "write\n"

-- what is wrong with an entry, a file or a word of this name
abbrev pub data_line : DataCause → List ℕ → List ℕ
data_line cause name = codes "data " ++ (data_cause cause ++ (codes " " ++ (name ++ 10 ∷ [])))

abbrev pub failed_line : List ℕ
failed_line = codes "failed\n"

-- a printed value
abbrev pub value_line : List ℕ → List ℕ
value_line text = codes "value: " ++ (text ++ 10 ∷ [])
