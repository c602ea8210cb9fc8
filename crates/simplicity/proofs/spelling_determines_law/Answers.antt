-- Answers to the goals of `spelling_determines_law`: a list of nodes and the bytes that spell it
-- determine each other.
use Rattle.simplicity.proofs.Spell.{one_spelling, one_list}
use Rattle.simplicity.proofs.spelling_determines_law.Goals as goal

pub returns : goal.returns
returns c = record { bytes = one_spelling; list = one_list }
