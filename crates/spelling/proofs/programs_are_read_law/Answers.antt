-- Answers to the goals of `programs_are_read_law`: a program is read exactly where its bytes spell a
-- list of few nodes, and as that list.
use Rattle.spelling.proofs.Programs.{programs_are_read}
use Rattle.spelling.proofs.programs_are_read_law.Goals as goal

pub returns : goal.returns
returns c = programs_are_read
