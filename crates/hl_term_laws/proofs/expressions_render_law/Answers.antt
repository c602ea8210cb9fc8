-- Answers to the goals of `expressions_render_law`: the term of a typed expression in a scope has the
-- arrow from the scope's type to that of the expression, keeps to the typing table at every place, and
-- on the encodings of values it computes the encoding of what the expression gives, or fails where that
-- fails.
use Rattle.hl_term_laws.proofs.Programs.{expressions_render}
use Rattle.hl_term_laws.proofs.expressions_render_law.Goals as goal

pub returns : goal.returns
returns c = expressions_render
