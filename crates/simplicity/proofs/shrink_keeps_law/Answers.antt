-- Answers to the goals of `shrink_keeps_law`: a value shrunk to a type at or below its own is of that type.
use Rattle.simplicity.proofs.Values.{shrink_of}
use Rattle.simplicity.proofs.shrink_keeps_law.Goals as goal

pub returns : goal.returns
returns c = shrink_of
