-- Answers to the goals of `answered_programs_are_unbroken`: where the walk answers a program, nothing is
-- broken; so it answers a rule or a limit exactly where one is broken.
use Rattle.hl_typing.proofs.Unbroken.{answered_unbroken}
use Rattle.hl_typing.proofs.answered_programs_are_unbroken.Goals as goal

pub returns : goal.returns
returns c = answered_unbroken
