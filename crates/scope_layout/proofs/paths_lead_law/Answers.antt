-- Answers to the goals of `paths_lead_law`: the path of a name is there exactly where the name is bound.
use Rattle.scope_layout.proofs.Scopes.{paths_lead}
use Rattle.scope_layout.proofs.paths_lead_law.Goals as goal

pub returns : goal.returns
returns c = paths_lead
