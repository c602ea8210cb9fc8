-- Answers to the goals of `jets_give_their_types`: every jet, on arguments of its types, gives a value
-- of its result type or fails.
use Rattle.hl_jets.proofs.Rows.{jets_answer}
use Rattle.hl_jets.proofs.jets_give_their_types.Goals as goal

pub returns : goal.returns
returns c = jets_answer
