-- Answers to the goals of `code_determines_law`: values of one type are told apart by their compact
-- codes, whatever bits follow.
use Rattle.simplicity.proofs.Values.{code_apart}
use Rattle.simplicity.proofs.code_determines_law.Goals as goal

pub returns : goal.returns
returns c = code_apart
