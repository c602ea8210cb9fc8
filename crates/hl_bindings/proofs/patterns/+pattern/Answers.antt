-- Answers to the goals of `pattern` in `patterns`.
use Rattle.std.proofs.Common.{◌≡◌, true, false, arith}
use Rattle.hl_grammar.specs.Read as read
use Rattle.hl_bindings.proofs.Depth.{pattern_too_deep, pattern_dead, pattern_deeper}
use Rattle.hl_bindings.proofs.patterns.+pattern.Goals as goal

pub returns-then-begins : goal.returns-then-begins
returns-then-begins t c =
    let h : read.begins_pattern c.args.cursor.now ≡ true = cc (c.tokens.ensures, c.begins.ensures, c.if-begins.true) in
    pattern_too_deep c.args.depth c.args.cursor.now (omega arith) h

pub returns-then-depth-eq0 : goal.returns-then-depth-eq0
returns-then-depth-eq0 t c =
    let h : read.begins_pattern c.args.cursor.now ≡ false = cc (c.tokens.ensures, c.begins.ensures, c.if-begins.false) in
    pattern_dead c.args.depth c.args.cursor.now (omega arith) h

pub returns : goal.returns
returns t c = rw (pattern_deeper c.args.depth c.args.cursor.now (omega arith)) c.level.ensures
