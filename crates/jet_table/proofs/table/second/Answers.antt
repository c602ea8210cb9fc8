-- Answers to the goals of `second`: from `divide` to `full_multiply`.
use Rattle.jet_table.proofs.Written.{seven_in_turn}
use Rattle.jet_table.proofs.table.second.Goals as goal

pub returns-clause-written : goal.returns-clause-written
returns-clause-written c =
    seven_in_turn _ _ _ _ _ _ _ _ _ _ _ _ _ _ _
    c.divide-at.ensures.written
    c.divides-at.ensures.written
    c.eq-at.ensures.written
    c.full_add-at.ensures.written
    c.full_decrement-at.ensures.written
    c.full_increment-at.ensures.written
    c.full_multiply.ensures.written
