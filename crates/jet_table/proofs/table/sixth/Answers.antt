-- Answers to the goals of `sixth`: from `negate` to `right_shift`.
use Rattle.jet_table.proofs.Written.{seven_in_turn}
use Rattle.jet_table.proofs.table.sixth.Goals as goal

pub returns-clause-written : goal.returns-clause-written
returns-clause-written c =
    seven_in_turn _ _ _ _ _ _ _ _ _ _ _ _ _ _ _
    c.negate-at.ensures.written
    c.or-at.ensures.written
    c.right_extend-at.ensures.written
    c.right_pad_high-at.ensures.written
    c.right_pad_low-at.ensures.written
    c.right_rotate-at.ensures.written
    c.right_shift.ensures.written
