-- Answers to the goals of `one_reading_law`: a text and names have one answer at most, but for want of
-- memory.
use Rattle.hl_files.proofs.Ones.{one_reading}
use Rattle.hl_files.proofs.laws.one_reading_law.Goals as goal

pub returns : goal.returns
returns c = one_reading
