-- Answers to the goals of `naturals_are_prefix_free_law`: no code of a natural begins another.
use Rattle.simplicity.proofs.Bits.{natural_apart}
use Rattle.spelling.proofs.naturals_are_prefix_free_law.Goals as goal

pub returns : goal.returns
returns c = natural_apart
