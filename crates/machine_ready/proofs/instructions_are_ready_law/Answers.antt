-- Answers to the goals of `instructions_are_ready_law`.
use Rattle.machine_ready.proofs.Going.{instructions_are_ready}
use Rattle.machine_ready.proofs.instructions_are_ready_law.Goals as goal

pub returns : goal.returns
returns c = instructions_are_ready
