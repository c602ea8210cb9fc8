-- Answers to the goals of `fifth`: from `lt` to `multiply`.
use Rattle.jet_table.proofs.Written.{seven_in_turn}
use Rattle.jet_table.proofs.table.fifth.Goals as goal

pub returns-clause-written : goal.returns-clause-written
returns-clause-written c =
    seven_in_turn _ _ _ _ _ _ _ _ _ _ _ _ _ _ _
    c.lt-at.ensures.written
    c.maj-at.ensures.written
    c.max-at.ensures.written
    c.median-at.ensures.written
    c.min-at.ensures.written
    c.modulo-at.ensures.written
    c.multiply.ensures.written
