-- Answers to the goals of `one_program_law`: tokens are one program at most.
use Rattle.simplicityhl.specs.Grammar as grammar
use Rattle.hl_grammar.specs.Read as read
use Rattle.hl_grammar.proofs.Programs.{program_at}
use Rattle.hl_grammar.proofs.Whole.{one_tree}
use Rattle.hl_grammar.proofs.one_program_law.Goals as goal

pub returns : goal.returns
returns c = one_tree grammar.program read.program program_at
