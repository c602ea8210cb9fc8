-- Answers to the goals of `bodies_are_typed_law`.
use Rattle.hl_expansions.proofs.Programs.{bodies_are_typed}
use Rattle.hl_expansions.proofs.bodies_are_typed_law.Goals as goal

pub returns : goal.returns
returns c = bodies_are_typed
