-- Answers to the goals of `answered_programs_are_typed`: what the walk answers as a program is typed by
-- the rules.
use Rattle.hl_typing.proofs.Programs.{answered_typed}
use Rattle.hl_typing.proofs.answered_programs_are_typed.Goals as goal

pub returns : goal.returns
returns c = answered_typed
