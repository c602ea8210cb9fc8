-- Invariants of `program` in `item`.
use Rattle.std.proofs.Common.{◌≡◌, suc, ◌-◌, length}
use Rattle.hl_grammar.specs.Readers.{turns}
use Rattle.hl_grammar.specs.Read as read
use Rattle.hl_parse.proofs.item.program.Given as goal

abbrev pub invariant-loop-turn : goal.invariant-loop-turn
invariant-loop-turn l = read.program l.depth l.fn.cursor ≡ turns (read.program_turn l.depth) (suc (length l.fn.cursor) - l._turn) l.found l.cursor
