-- Answers to the goals of `last_argument`: `expr)`, with or without a comma after the expression.
use Rattle.std.proofs.Common.{arith}
use Rattle.std.proofs.lemmas.Grind.{common_steps}
use Rattle.hl_operands.proofs.inner.Inner.last_argument.Goals as goal

pub returns-in_err-close : goal.returns-in_err-close
returns-in_err-close g c = λ pair. grind (arith, common_steps, c.close.ensures (pair c.in_ok-argument.argument))

pub returns : goal.returns
returns g c = λ pair. grind (arith, common_steps, c.in_ok-close.ensures (pair c.in_ok-argument.argument))
