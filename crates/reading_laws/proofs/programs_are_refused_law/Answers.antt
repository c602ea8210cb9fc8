-- Answers to the goals of `programs_are_refused_law`: a program's bytes are refused exactly as their
-- fields say, from the first field to the last.
use Rattle.reading_laws.proofs.Programs.{programs_are_refused}
use Rattle.reading_laws.proofs.programs_are_refused_law.Goals as goal

pub returns : goal.returns
returns c = programs_are_refused
