-- Invariants of `list` in `type_texts`.
use Rattle.std.proofs.Common.{◌≡◌, suc, ◌-◌, length}
use Rattle.hl_grammar.specs.Readers.{turns}
use Rattle.hl_grammar.specs.Read as read
use Rattle.hl_bindings.proofs.type_texts.Inner.list.Given as goal

abbrev pub invariant-loop-turn : goal.invariant-loop-turn
invariant-loop-turn g l =
    let x = read.type l.self.depth in
    read.many l.close x l.fn.cursor ≡ turns (read.many_turn l.close x) (suc (length l.fn.cursor) - l._turn) l.items l.cursor
