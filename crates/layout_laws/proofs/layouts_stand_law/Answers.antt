-- Answers to the goals of `layouts_stand_law`: the scope of terms of a layout has the names, the bound
-- witnesses and the type of the layout.
use Rattle.layout_laws.proofs.Scopes.{layouts_stand}
use Rattle.layout_laws.proofs.layouts_stand_law.Goals as goal

pub returns : goal.returns
returns c = layouts_stand
