-- What the code takes.
use Rattle.std.specs.Option.{option_copied}
use Rattle.checked_source.specs.Parts.{asking_of}
use Rattle.eval_command.specs.declared.evaluation.GivenWords.{GivenWords}
use Rattle.eval_command.specs.Evaluation.{Given}

abbrev pub given_of : GivenWords → Given
given_of g = record { asked = asking_of g.asked; witness = option_copied g.witness; input = option_copied g.input }
