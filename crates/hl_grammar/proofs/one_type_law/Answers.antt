-- Answers to the goals of `one_type_law`: tokens are one type at most.
use Rattle.simplicityhl.specs.Grammar as grammar
use Rattle.hl_grammar.specs.Read as read
use Rattle.hl_grammar.proofs.Types.{type_at}
use Rattle.hl_grammar.proofs.Whole.{one_tree}
use Rattle.hl_grammar.proofs.one_type_law.Goals as goal

pub returns : goal.returns
returns c = one_tree grammar.type read.type type_at
