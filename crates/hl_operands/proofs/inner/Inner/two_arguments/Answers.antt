-- Answers to the goals of `two_arguments` in `inner`.
use Rattle.std.proofs.Common.{arith}
use Rattle.std.proofs.lemmas.Grind.{common_steps}
use Rattle.hl_syntax.specs.declared.tree.Expr.{Expr}
use Rattle.hl_grammar.specs.Read as read
use Rattle.hl_operands.proofs.inner.Inner.two_arguments.Goals as goal

pub returns-in_err-second : goal.returns-in_err-second
unfolding read.two_arguments
returns-in_err-second g c = grind (arith, common_steps, c.last_argument.ensures (λ (b : Expr). (c.in_ok-first.first, b)))

pub returns : goal.returns
unfolding read.two_arguments
returns g c = grind (arith, common_steps, c.in_ok-second.ensures (λ (b : Expr). (c.in_ok-first.first, b)))
