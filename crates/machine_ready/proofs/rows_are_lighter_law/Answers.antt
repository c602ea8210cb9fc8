-- Answers to the goals of `rows_are_lighter_law`.
use Rattle.machine_ready.proofs.Lighter.{rows_are_lighter}
use Rattle.machine_ready.proofs.rows_are_lighter_law.Goals as goal

pub returns : goal.returns
returns c = rows_are_lighter
