-- Answers to the goals of `third`: from `full_subtract` to `left_extend`.
use Rattle.jet_table.proofs.Written.{seven_in_turn}
use Rattle.jet_table.proofs.table.third.Goals as goal

pub returns-clause-written : goal.returns-clause-written
returns-clause-written c =
    seven_in_turn _ _ _ _ _ _ _ _ _ _ _ _ _ _ _
    c.full_subtract-at.ensures.written
    c.high-at.ensures.written
    c.increment-at.ensures.written
    c.is_one-at.ensures.written
    c.is_zero-at.ensures.written
    c.le-at.ensures.written
    c.left_extend.ensures.written
