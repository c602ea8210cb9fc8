-- Answers to the goals of `value_texts_are_expressions`: what is a value text is an expression with the
-- same tree, and that is of forms of values.
use Rattle.hl_value_walks.proofs.AsExpressions.{texts_lift}
use Rattle.hl_value_walks.proofs.value_texts_are_expressions.Goals as goal

pub returns : goal.returns
returns c = texts_lift
