-- Answers to the goals of `value`: a value text that is nested less than so deep: `depth` counts the
-- expressions that stand in one another.
use Rattle.std.proofs.Common.{◌≡◌, true, arith}
use Rattle.hl_grammar.specs.Read as read
use Rattle.hl_exprs.proofs.Depth.{expr_brink, expr_deeper}
use Rattle.hl_exprs.proofs.expr.+value.Goals as goal

pub returns-then-depth-eq0 : goal.returns-then-depth-eq0
returns-then-depth-eq0 t c =
    let e : read.value c.args.depth c.args.cursor.now ≡ _ = expr_brink true c.args.depth c.args.cursor.now (omega arith) in
    rw e c.brink.ensures

pub returns : goal.returns
returns t c =
    let e : read.value c.args.depth c.args.cursor.now ≡ _ = expr_deeper true c.args.depth c.args.cursor.now (omega arith) in
    rw e c.level.ensures
