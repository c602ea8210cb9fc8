-- Answers to the goals of `with_digit`: a number with a digit after its own.
use Rattle.std.proofs.Common.{refl}
use Rattle.hl_literals.proofs.Spelling.{digit_found, digit_none}
use Rattle.hl_literals.proofs.literal.with_digit.Goals as goal

pub returns-in_err-high-clause-none : goal.returns-in_err-high-clause-none
returns-in_err-high-clause-none c =
    rw c.from_residual-in_err-high.ensures
    (digit_none c.args.number.high c.args.number.low c.args.base c.args.digit c.from-base.result c.from.result _ _ c.in_ok-checked_mul.field-0 c.from-base.ensures c.from.ensures refl refl c.in_ok-checked_mul.ensures.1 c.in_err-high.ensures)

pub returns-clause-found : goal.returns-clause-found
returns-clause-found c =
    digit_found c.args.number.high c.args.number.low c.args.base c.args.digit c.from-base.result c.from.result _ _ c.in_ok-checked_mul.field-0 c.in_ok-high.high c.from-base.ensures c.from.ensures refl refl c.in_ok-checked_mul.ensures.1
    c.in_ok-high.ensures.1
