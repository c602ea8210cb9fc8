-- Answers to the goals of `fourth`: from `left_pad_high` to `low`.
use Rattle.jet_table.proofs.Written.{seven_in_turn}
use Rattle.jet_table.proofs.table.fourth.Goals as goal

pub returns-clause-written : goal.returns-clause-written
returns-clause-written c =
    seven_in_turn _ _ _ _ _ _ _ _ _ _ _ _ _ _ _
    c.left_pad_high-at.ensures.written
    c.left_pad_low-at.ensures.written
    c.left_rotate-at.ensures.written
    c.left_shift-at.ensures.written
    c.left_shift_with-at.ensures.written
    c.leftmost-at.ensures.written
    c.low.ensures.written
