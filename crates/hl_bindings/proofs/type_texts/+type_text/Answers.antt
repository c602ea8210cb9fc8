-- Answers to the goals of `type_text` in `type_texts`.
use Rattle.std.proofs.Common.{◌≡◌, true, false, arith}
use Rattle.hl_grammar.specs.Read as read
use Rattle.hl_bindings.proofs.Depth.{type_too_deep, type_dead, type_deeper}
use Rattle.hl_bindings.proofs.type_texts.+type_text.Goals as goal

pub returns-then-begins : goal.returns-then-begins
returns-then-begins t c =
    let h : read.begins_type c.args.cursor.now ≡ true = cc (c.tokens.ensures, c.begins.ensures, c.if-begins.true) in
    type_too_deep c.args.depth c.args.cursor.now (omega arith) h

pub returns-then-depth-eq0 : goal.returns-then-depth-eq0
returns-then-depth-eq0 t c =
    let h : read.begins_type c.args.cursor.now ≡ false = cc (c.tokens.ensures, c.begins.ensures, c.if-begins.false) in
    type_dead c.args.depth c.args.cursor.now (omega arith) h

pub returns : goal.returns
returns t c = rw (type_deeper c.args.depth c.args.cursor.now (omega arith)) c.level.ensures
