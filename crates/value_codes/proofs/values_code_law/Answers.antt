-- Answers to the goals of `values_code_law`: the encoding of values is one to one onto the core values
-- of the form.
use Rattle.value_codes.proofs.Codes.{values_code}
use Rattle.value_codes.proofs.values_code_law.Goals as goal

pub returns : goal.returns
returns c = values_code
