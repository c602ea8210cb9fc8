-- Answers to the goals of `array_fold_form`: `array_fold::<name, count>(expr, expr)`
use Rattle.hl_syntax.specs.declared.token.Mark.{Mark}
use Rattle.hl_syntax.specs.declared.tree.Expr.{Expr}
use Rattle.hl_syntax.specs.declared.tree.ExprForm.TheVariants as exprs
use Rattle.simplicityhl.specs.declared.alternatives.ExprAlternative.TheVariants as expr_as
use Rattle.hl_grammar.specs.Read as read
use Rattle.hl_cursor.proofs.Passed.{passed_on}
use Rattle.hl_operands.specs.Exprs.{within}
use Rattle.hl_operands.proofs.inner.Inner.array_fold_form.Goals as goal

pub returns-in_err-function : goal.returns-in_err-function
unfolding read.expr_form
returns-in_err-function g c = passed_on (λ (a : Mark × Mark × Expr × Expr). exprs.ArrayFold a.0 a.1 a.2 a.3) (within read.expr_form c.args.self.now.values_only c.args.self.now.depth expr_as.ArrayFold c.args.cursor.now) c.in_err-function.field-0.0 c.from_residual.result c.counted.new.cursor (c.in_err-function.ensures exprs.ArrayFold) c.from_residual.ensures.1

pub returns : goal.returns
unfolding read.expr_form
returns g c = c.in_ok-function.ensures exprs.ArrayFold
