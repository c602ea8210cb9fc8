-- Answers to the goals of `terms_grow_law`.
use Rattle.hl_expansions.proofs.Programs.{terms_grow}
use Rattle.hl_expansions.proofs.terms_grow_law.Goals as goal

pub returns : goal.returns
returns c = terms_grow
