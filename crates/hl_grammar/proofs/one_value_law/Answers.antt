-- Answers to the goals of `one_value_law`: tokens are one value text at most.
use Rattle.std.proofs.Common.{true}
use Rattle.simplicityhl.specs.Grammar as grammar
use Rattle.hl_grammar.specs.Read as read
use Rattle.hl_grammar.proofs.Exprs.{expr_at}
use Rattle.hl_grammar.proofs.Whole.{one_tree}
use Rattle.hl_grammar.proofs.one_value_law.Goals as goal

pub returns : goal.returns
returns c = one_tree grammar.value read.value (expr_at true)
