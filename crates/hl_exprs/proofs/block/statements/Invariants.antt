-- Invariants of `statements`: what stands after the opening brace of a block.
use Rattle.std.proofs.Common.{◌≡◌, suc, ◌-◌, length}
use Rattle.hl_grammar.specs.Readers.{turns}
use Rattle.hl_grammar.specs.Read as read
use Rattle.hl_operands.specs.Exprs.{within, statements}
use Rattle.hl_exprs.proofs.block.statements.Given as goal

abbrev pub invariant-loop-turn : goal.invariant-loop-turn
invariant-loop-turn g l =
    within statements l.inner.values_only l.inner.depth l.fn.cursor ≡ turns (within read.block_turn l.inner.values_only l.inner.depth) (suc (length l.fn.cursor) - l._turn) l.found l.cursor
