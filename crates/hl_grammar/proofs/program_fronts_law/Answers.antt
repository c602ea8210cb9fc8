-- Answers to the goals of `program_fronts_law`: the same for programs.
use Rattle.simplicityhl.specs.Grammar as grammar
use Rattle.hl_grammar.specs.Read as read
use Rattle.hl_grammar.proofs.Places.{has_fronts}
use Rattle.hl_grammar.proofs.Readables.{programs}
use Rattle.hl_grammar.proofs.program_fronts_law.Goals as goal

pub returns : goal.returns
returns c = has_fronts grammar.program read.program programs
