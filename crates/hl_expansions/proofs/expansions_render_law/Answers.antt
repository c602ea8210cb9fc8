-- Answers to the goals of `expansions_render_law`.
use Rattle.hl_expansions.proofs.Programs.{parts_rendered}
use Rattle.hl_expansions.proofs.expansions_render_law.Goals as goal

pub returns : goal.returns
returns c = parts_rendered
