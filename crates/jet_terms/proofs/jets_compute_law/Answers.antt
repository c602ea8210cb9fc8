use Rattle.jet_terms.proofs.AllLaws.{each_law}
use Rattle.jet_terms.proofs.jets_compute_law.Goals as goal

pub returns : goal.returns
returns c = each_law
