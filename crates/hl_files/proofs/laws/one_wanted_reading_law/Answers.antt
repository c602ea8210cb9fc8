-- Answers to the goals of `one_wanted_reading_law`: the same for wanted names.
use Rattle.hl_files.proofs.Ones.{one_wanted_reading}
use Rattle.hl_files.proofs.laws.one_wanted_reading_law.Goals as goal

pub returns : goal.returns
returns c = one_wanted_reading
