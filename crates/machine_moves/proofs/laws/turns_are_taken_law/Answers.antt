-- Answers to the goals of `turns_are_taken_law`.
use Rattle.machine_moves.proofs.Taken.{turns_are_taken}
use Rattle.machine_moves.proofs.laws.turns_are_taken_law.Goals as goal

pub returns : goal.returns
returns c = turns_are_taken
