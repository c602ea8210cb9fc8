-- Answers to the goals of `one_expr_law`: tokens are one expression at most.
use Rattle.std.proofs.Common.{false}
use Rattle.simplicityhl.specs.Grammar as grammar
use Rattle.hl_grammar.specs.Read as read
use Rattle.hl_grammar.proofs.Exprs.{expr_at}
use Rattle.hl_grammar.proofs.Whole.{one_tree}
use Rattle.hl_grammar.proofs.one_expr_law.Goals as goal

pub returns : goal.returns
returns c = one_tree grammar.expr read.expr (expr_at false)
