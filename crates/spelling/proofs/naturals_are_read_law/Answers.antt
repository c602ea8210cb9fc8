-- Answers to the goals of `naturals_are_read_law`: a natural is read exactly where its bits stand, and
-- no bit more.
use Rattle.spelling.proofs.Numbers.{naturals_are_read}
use Rattle.spelling.proofs.naturals_are_read_law.Goals as goal

pub returns : goal.returns
returns c = naturals_are_read
