-- Answers to the goals of `form`: an expression without parentheses around it, by its alternative.
use Rattle.hl_syntax.specs.declared.tree.ExprForm.TheVariants as exprs
use Rattle.simplicityhl.specs.declared.alternatives.ExprAlternative.TheVariants as expr_as
use Rattle.hl_grammar.specs.Read as read
use Rattle.hl_operands.specs.Exprs.{within}
use Rattle.hl_cursor.proofs.Passed.{passed_on}
use Rattle.hl_exprs.proofs.expr.form.Goals as goal

pub returns-in_err-exclaimed-in-Assert : goal.returns-in_err-exclaimed-in-Assert
unfolding read.expr_form
returns-in_err-exclaimed-in-Assert g c = rw c.in-Assert.is (passed_on exprs.Assert (within read.expr_form c.args.inner.now.values_only c.args.inner.now.depth expr_as.Assert c.args.cursor.now) c.in_err-exclaimed-in-Assert.field-0.0 c.from_residual-in_err-exclaimed-in-Assert.result c.exclaimed.new.cursor (c.in_err-exclaimed-in-Assert.ensures exprs.Assert) c.from_residual-in_err-exclaimed-in-Assert.ensures.1)

pub returns-in_ok-exclaimed-in-Assert : goal.returns-in_ok-exclaimed-in-Assert
unfolding read.expr_form
returns-in_ok-exclaimed-in-Assert g c = rw c.in-Assert.is (c.in_ok-exclaimed-in-Assert.ensures exprs.Assert)

pub returns-in_err-exclaimed-in-Dbg : goal.returns-in_err-exclaimed-in-Dbg
unfolding read.expr_form
returns-in_err-exclaimed-in-Dbg g c = rw c.in-Dbg.is (passed_on exprs.Dbg (within read.expr_form c.args.inner.now.values_only c.args.inner.now.depth expr_as.Dbg c.args.cursor.now) c.in_err-exclaimed-in-Dbg.field-0.0 c.from_residual-in_err-exclaimed-in-Dbg.result c.exclaimed-in-Dbg.new.cursor (c.in_err-exclaimed-in-Dbg.ensures exprs.Dbg) c.from_residual-in_err-exclaimed-in-Dbg.ensures.1)

pub returns-in_ok-exclaimed-in-Dbg : goal.returns-in_ok-exclaimed-in-Dbg
unfolding read.expr_form
returns-in_ok-exclaimed-in-Dbg g c = rw c.in-Dbg.is (c.in_ok-exclaimed-in-Dbg.ensures exprs.Dbg)

pub returns-in_err-named-in-Witness : goal.returns-in_err-named-in-Witness
unfolding read.expr_form
returns-in_err-named-in-Witness g c = rw c.in-Witness.is (passed_on exprs.Witness (within read.expr_form c.args.inner.now.values_only c.args.inner.now.depth expr_as.Witness c.args.cursor.now) c.in_err-named-in-Witness.field-0.0 c.from_residual-in_err-named-in-Witness.result c.named.new.cursor (c.in_err-named-in-Witness.ensures exprs.Witness) c.from_residual-in_err-named-in-Witness.ensures.1)

pub returns-in_ok-named-in-Witness : goal.returns-in_ok-named-in-Witness
unfolding read.expr_form
returns-in_ok-named-in-Witness g c = rw c.in-Witness.is (c.in_ok-named-in-Witness.ensures exprs.Witness)

pub returns-in_err-named-in-Param : goal.returns-in_err-named-in-Param
unfolding read.expr_form
returns-in_err-named-in-Param g c = rw c.in-Param.is (passed_on exprs.Param (within read.expr_form c.args.inner.now.values_only c.args.inner.now.depth expr_as.Param c.args.cursor.now) c.in_err-named-in-Param.field-0.0 c.from_residual-in_err-named-in-Param.result c.named-in-Param.new.cursor (c.in_err-named-in-Param.ensures exprs.Param) c.from_residual-in_err-named-in-Param.ensures.1)

pub returns-in_ok-named-in-Param : goal.returns-in_ok-named-in-Param
unfolding read.expr_form
returns-in_ok-named-in-Param g c = rw c.in-Param.is (c.in_ok-named-in-Param.ensures exprs.Param)

pub returns-in_err-applied-in-Unwrap : goal.returns-in_err-applied-in-Unwrap
unfolding read.expr_form
returns-in_err-applied-in-Unwrap g c = rw c.in-Unwrap.is (passed_on exprs.Unwrap (within read.expr_form c.args.inner.now.values_only c.args.inner.now.depth expr_as.Unwrap c.args.cursor.now) c.in_err-applied-in-Unwrap.field-0.0 c.from_residual-in_err-applied-in-Unwrap.result c.applied.new.cursor (c.in_err-applied-in-Unwrap.ensures exprs.Unwrap) c.from_residual-in_err-applied-in-Unwrap.ensures.1)

pub returns-in_ok-applied-in-Unwrap : goal.returns-in_ok-applied-in-Unwrap
unfolding read.expr_form
returns-in_ok-applied-in-Unwrap g c = rw c.in-Unwrap.is (c.in_ok-applied-in-Unwrap.ensures exprs.Unwrap)

pub returns-in_err-applied-in-Left : goal.returns-in_err-applied-in-Left
unfolding read.expr_form
returns-in_err-applied-in-Left g c = rw c.in-Left.is (passed_on exprs.Left (within read.expr_form c.args.inner.now.values_only c.args.inner.now.depth expr_as.Left c.args.cursor.now) c.in_err-applied-in-Left.field-0.0 c.from_residual-in_err-applied-in-Left.result c.applied-in-Left.new.cursor (c.in_err-applied-in-Left.ensures exprs.Left) c.from_residual-in_err-applied-in-Left.ensures.1)

pub returns-in_ok-applied-in-Left : goal.returns-in_ok-applied-in-Left
unfolding read.expr_form
returns-in_ok-applied-in-Left g c = rw c.in-Left.is (c.in_ok-applied-in-Left.ensures exprs.Left)

pub returns-in_err-applied-in-Right : goal.returns-in_err-applied-in-Right
unfolding read.expr_form
returns-in_err-applied-in-Right g c = rw c.in-Right.is (passed_on exprs.Right (within read.expr_form c.args.inner.now.values_only c.args.inner.now.depth expr_as.Right c.args.cursor.now) c.in_err-applied-in-Right.field-0.0 c.from_residual-in_err-applied-in-Right.result c.applied-in-Right.new.cursor (c.in_err-applied-in-Right.ensures exprs.Right) c.from_residual-in_err-applied-in-Right.ensures.1)

pub returns-in_ok-applied-in-Right : goal.returns-in_ok-applied-in-Right
unfolding read.expr_form
returns-in_ok-applied-in-Right g c = rw c.in-Right.is (c.in_ok-applied-in-Right.ensures exprs.Right)

pub returns-in_err-applied-in-Some : goal.returns-in_err-applied-in-Some
unfolding read.expr_form
returns-in_err-applied-in-Some g c = rw c.in-Some.is (passed_on exprs.Some (within read.expr_form c.args.inner.now.values_only c.args.inner.now.depth expr_as.Some c.args.cursor.now) c.in_err-applied-in-Some.field-0.0 c.from_residual-in_err-applied-in-Some.result c.applied-in-Some.new.cursor (c.in_err-applied-in-Some.ensures exprs.Some) c.from_residual-in_err-applied-in-Some.ensures.1)

pub returns-in_ok-applied-in-Some : goal.returns-in_ok-applied-in-Some
unfolding read.expr_form
returns-in_ok-applied-in-Some g c = rw c.in-Some.is (c.in_ok-applied-in-Some.ensures exprs.Some)
