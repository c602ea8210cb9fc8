-- Answers to the goals of `expressions_of_values_are_texts`: what is an expression of forms of values is
-- a value text with the same tree.
use Rattle.hl_value_walks.proofs.AsTexts.{exprs_drop}
use Rattle.hl_value_walks.proofs.expressions_of_values_are_texts.Goals as goal

pub returns : goal.returns
returns c = exprs_drop
