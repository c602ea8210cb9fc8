-- Answers to the goals of `based_number`: the number that digits of a base spell, `_` between them left out.
use Rattle.hl_literals.proofs.Spelling.{past_read}
use Rattle.hl_literals.proofs.literal.based_number.Goals as goal

pub returns-in_err-number-clause-none : goal.returns-in_err-number-clause-none
returns-in_err-number-clause-none c =
    rw c.from_residual.ensures
    (past_read c.args.base _ c.args.digits.now c.loop-byte.byte-index 0 c.digit_value.result _ c.requires.some c.loop-byte-test.true c.if-byte-ne95.true c.digit_value.ensures c.in_err-number.ensures.none c.loop-byte.invariant)
