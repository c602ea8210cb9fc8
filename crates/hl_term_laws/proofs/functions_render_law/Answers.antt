-- Answers to the goals of `functions_render_law`: the same of the functions of a typed program, each on
-- the tuple of its arguments' encodings.
use Rattle.hl_term_laws.proofs.Programs.{functions_render}
use Rattle.hl_term_laws.proofs.functions_render_law.Goals as goal

pub returns : goal.returns
returns c = functions_render
