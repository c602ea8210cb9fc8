-- Answers to the goals of `tuples_halve_law`: more than one value or type are the tuple of the first
-- half beside that of the rest.
use Rattle.simplicity.proofs.Tuples.{tuples_halve}
use Rattle.simplicity.proofs.tuples_halve_law.Goals as goal

pub returns : goal.returns
returns c = tuples_halve
