-- Answers to the goals of `answered_witnesses_are_held`: the names that `main` of a program holds, in
-- the order in which its term has them, are those of the program's witnesses, each once: in edition 2 in
-- their order, in edition 1 in some order.
use Rattle.hl_witness_names.proofs.Held.{held}
use Rattle.hl_witness_names.proofs.answered_witnesses_are_held.Goals as goal

pub returns : goal.returns
returns c = held c.answered_programs_are_the_source.ensures c.answered_programs_are_typed.ensures c.answered_witnesses_are_named.ensures
