-- Answers to the goals of `cells_fill_law`: a value of a type has as many cells as the type's size.
use Rattle.simplicity.proofs.Values.{cells_length}
use Rattle.simplicity.proofs.cells_fill_law.Goals as goal

pub returns : goal.returns
returns c = cells_length
