-- Answers to the goals of `program_terms_are_typed_law`.
use Rattle.hl_expansions.proofs.Programs.{program_terms_are_typed}
use Rattle.hl_expansions.proofs.program_terms_are_typed_law.Goals as goal

pub returns : goal.returns
returns c = program_terms_are_typed
