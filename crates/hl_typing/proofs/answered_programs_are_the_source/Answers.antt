-- Answers to the goals of `answered_programs_are_the_source`: with its types left out it is the source text.
use Rattle.hl_typing.proofs.Programs.{answered_erased}
use Rattle.hl_typing.proofs.answered_programs_are_the_source.Goals as goal

pub returns : goal.returns
returns c = answered_erased
