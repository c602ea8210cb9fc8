-- Answers to the goals of `truth`: the truth value that a bit is.
use Rattle.std.proofs.Common.{ap}
use Rattle.simplicity.specs.Types.{Inl, Inr}
use Rattle.hl_values.proofs.Codecs.{one_parts}
use Rattle.hl_values.proofs.decode.truth.Goals as goal

pub returns-in-Left : goal.returns-in-Left
returns-in-Left c = rw c.in-Left.is (ap Inl (one_parts _ (rw c.in-Left.is at c.requires)))

pub returns-in-Right : goal.returns-in-Right
returns-in-Right c = rw c.in-Right.is (ap Inr (one_parts _ (rw c.in-Right.is at c.requires)))
