-- Answers to the goals of `seventh`: from `right_shift_with` to `xor_xor`.
use Rattle.jet_table.proofs.Written.{seven_in_turn}
use Rattle.jet_table.proofs.table.seventh.Goals as goal

pub returns-clause-written : goal.returns-clause-written
returns-clause-written c =
    seven_in_turn _ _ _ _ _ _ _ _ _ _ _ _ _ _ _
    c.right_shift_with-at.ensures.written
    c.rightmost-at.ensures.written
    c.some-at.ensures.written
    c.subtract-at.ensures.written
    c.verify-at.ensures.written
    c.xor-at.ensures.written
    c.xor_xor.ensures.written
