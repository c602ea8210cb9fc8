-- Answers to the goals of `functions_in_order_law`.
use Rattle.hl_expansions.proofs.Programs.{functions_in_order}
use Rattle.hl_expansions.proofs.functions_in_order_law.Goals as goal

pub returns : goal.returns
returns c = functions_in_order
