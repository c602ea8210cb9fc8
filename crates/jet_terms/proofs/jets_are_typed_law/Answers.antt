use Rattle.jet_terms.proofs.AllTyped.{each_typed}
use Rattle.jet_terms.proofs.jets_are_typed_law.Goals as goal

pub returns : goal.returns
returns c = each_typed
