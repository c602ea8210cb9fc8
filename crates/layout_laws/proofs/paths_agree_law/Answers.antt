-- Answers to the goals of `paths_agree_law`: the path to a name in a layout is the path to the same
-- place in its scope of terms, for variables and for bound witnesses.
use Rattle.layout_laws.proofs.Scopes.{paths_agree}
use Rattle.layout_laws.proofs.paths_agree_law.Goals as goal

pub returns : goal.returns
returns c = paths_agree
