-- Answers to the goals of `expr` in `expr`.
use Rattle.std.proofs.Common.{◌≡◌, false, arith}
use Rattle.hl_grammar.specs.Read as read
use Rattle.hl_exprs.proofs.Depth.{expr_brink, expr_deeper}
use Rattle.hl_exprs.proofs.expr.+expr.Goals as goal

pub returns-then-depth-eq0 : goal.returns-then-depth-eq0
returns-then-depth-eq0 t c =
    let e : read.expr c.args.depth c.args.cursor.now ≡ _ = expr_brink false c.args.depth c.args.cursor.now (omega arith) in
    rw e c.brink.ensures

pub returns : goal.returns
returns t c =
    let e : read.expr c.args.depth c.args.cursor.now ≡ _ = expr_deeper false c.args.depth c.args.cursor.now (omega arith) in
    rw e c.level.ensures
