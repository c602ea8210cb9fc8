-- What the code read of the words.
use Rattle.std.specs.Option.{option_copied}
use Rattle.command_words.specs.declared.words.Asked.{Asked}
use Rattle.command_words.specs.declared.words.Asked.TheVariants as asked
use Rattle.command_words.specs.declared.words.EvalWords.{EvalWords}
use Rattle.command_words.specs.Words.{Evaluation, Reading, BuildOf, EvalOf, Misfit}

abbrev pub evaluation_of : EvalWords → Evaluation
evaluation_of w = record { file = w.file.now; function = w.function.now; edition = w.edition; args = option_copied w.args; witness = option_copied w.witness; input = option_copied w.input }

abbrev pub reading_of : Asked → Reading
reading_of (asked.Build file function) = BuildOf file.now function.now
reading_of (asked.Eval words) = EvalOf (evaluation_of words)
reading_of (asked.Misfit index) = Misfit index
