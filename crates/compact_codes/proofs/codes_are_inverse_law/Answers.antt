-- Answers to the goals of `codes_are_inverse_law`: where the code of a value of the type stands, that
-- value is what is read there, and no refusal is right.
use Rattle.compact_codes.proofs.Codes.{codes_are_inverse}
use Rattle.compact_codes.proofs.codes_are_inverse_law.Goals as goal

pub returns : goal.returns
returns c = codes_are_inverse
