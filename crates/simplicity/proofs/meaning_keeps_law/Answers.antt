-- Answers to the goals of `meaning_keeps_law`: the meaning of a typed term on a value of its source is
-- failure or a value of its target.
use Rattle.simplicity.proofs.Meaning.{meaning_keeps}
use Rattle.simplicity.proofs.meaning_keeps_law.Goals as goal

pub returns : goal.returns
returns c = meaning_keeps
