-- Answers to the goals of `parameters_stand_law`: a pattern of names at the types of parameters begins
-- the scope of terms that a function has.
use Rattle.layout_laws.proofs.Shapes.{parameters_stand}
use Rattle.layout_laws.proofs.parameters_stand_law.Goals as goal

pub returns : goal.returns
returns c = parameters_stand
