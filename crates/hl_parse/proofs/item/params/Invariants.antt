-- Invariants of `params`: parameters, and the parenthesis after them.
use Rattle.std.proofs.Common.{◌≡◌, suc, ◌-◌, length}
use Rattle.hl_syntax.specs.declared.token.Symbol.TheVariants.{CloseParenthesis}
use Rattle.hl_grammar.specs.Readers.{turns}
use Rattle.hl_grammar.specs.Read as read
use Rattle.hl_parse.proofs.item.params.Given as goal

abbrev pub invariant-loop-turn : goal.invariant-loop-turn
invariant-loop-turn l =
    let x = read.param l.depth in
    read.many CloseParenthesis x l.fn.cursor ≡ turns (read.many_turn CloseParenthesis x) (suc (length l.fn.cursor) - l._turn) l.items l.cursor
