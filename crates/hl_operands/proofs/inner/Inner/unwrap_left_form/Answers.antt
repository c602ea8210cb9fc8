-- Answers to the goals of `unwrap_left_form`: `unwrap_left::<type>(expr)`
use Rattle.hl_syntax.specs.declared.tree.TypeText.{TypeText}
use Rattle.hl_syntax.specs.declared.tree.Expr.{Expr}
use Rattle.hl_syntax.specs.declared.tree.ExprForm.TheVariants as exprs
use Rattle.simplicityhl.specs.declared.alternatives.ExprAlternative.TheVariants as expr_as
use Rattle.hl_grammar.specs.Read as read
use Rattle.hl_cursor.proofs.Passed.{passed_on}
use Rattle.hl_operands.specs.Exprs.{within}
use Rattle.hl_operands.proofs.inner.Inner.unwrap_left_form.Goals as goal

pub returns-in_err-kind : goal.returns-in_err-kind
unfolding read.expr_form
returns-in_err-kind g c = passed_on (λ (a : TypeText × Expr). exprs.UnwrapLeft a.0 a.1) (within read.expr_form c.args.self.now.values_only c.args.self.now.depth expr_as.UnwrapLeft c.args.cursor.now) c.in_err-kind.field-0.0 c.from_residual.result c.typed.new.cursor (c.in_err-kind.ensures exprs.UnwrapLeft) c.from_residual.ensures.1

pub returns : goal.returns
unfolding read.expr_form
returns g c = c.in_ok-kind.ensures exprs.UnwrapLeft
