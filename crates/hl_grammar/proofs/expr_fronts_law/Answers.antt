-- Answers to the goals of `expr_fronts_law`: the same for expressions.
use Rattle.simplicityhl.specs.Grammar as grammar
use Rattle.hl_grammar.specs.Read as read
use Rattle.hl_grammar.proofs.Places.{has_fronts}
use Rattle.hl_grammar.proofs.Readables.{exprs}
use Rattle.hl_grammar.proofs.expr_fronts_law.Goals as goal

pub returns : goal.returns
returns c = has_fronts grammar.expr read.expr exprs
