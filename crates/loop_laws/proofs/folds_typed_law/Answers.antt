use Rattle.loop_laws.proofs.Arrowed.{folds_typed}
use Rattle.loop_laws.proofs.folds_typed_law.Goals as goal

pub returns : goal.returns
returns c = folds_typed
