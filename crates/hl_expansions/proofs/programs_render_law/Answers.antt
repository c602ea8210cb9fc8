-- Answers to the goals of `programs_render_law`.
use Rattle.hl_expansions.proofs.Programs.{programs_render}
use Rattle.hl_expansions.proofs.programs_render_law.Goals as goal

pub returns : goal.returns
returns c = programs_render
