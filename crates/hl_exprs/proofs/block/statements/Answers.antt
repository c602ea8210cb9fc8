-- Answers to the goals of `statements`: what stands after the opening brace of a block.
use Rattle.std.proofs.Common.{suc, ◌+◌, ◌-◌, length, arith}
use Rattle.std.proofs.lemmas.Grind.{common_steps}
use Rattle.hl_grammar.specs.Readers.{turns}
use Rattle.hl_grammar.specs.Read as read
use Rattle.hl_operands.specs.Exprs.{within, statements}
use Rattle.hl_cursor.proofs.Turns.{next_turn, over}
use Rattle.hl_exprs.proofs.block.statements.Goals as goal

pub returns-in_err-block_turn : goal.returns-in_err-block_turn
returns-in_err-block_turn g c =
    let x = within read.block_turn c.args.inner.now.values_only c.args.inner.now.depth in
    let n = length c.args.cursor.now in
    let k = c.loop-turn._turn in
    grind (arith, common_steps, next_turn x n k c.loop-turn.found c.loop-turn.cursor (within statements c.args.inner.now.values_only c.args.inner.now.depth c.args.cursor.now) c.loop-turn.invariant (omega arith), c.block_turn.ensures (turns x (suc n - (k + 1))))

pub returns-in-Last : goal.returns-in-Last
returns-in-Last g c =
    let x = within read.block_turn c.args.inner.now.values_only c.args.inner.now.depth in
    let n = length c.args.cursor.now in
    let k = c.loop-turn._turn in
    grind (arith, common_steps, next_turn x n k c.loop-turn.found c.loop-turn.cursor (within statements c.args.inner.now.values_only c.args.inner.now.depth c.args.cursor.now) c.loop-turn.invariant (omega arith), c.block_turn.ensures (turns x (suc n - (k + 1))))

pub loop-turn-preserved : goal.loop-turn-preserved
loop-turn-preserved g c =
    let x = within read.block_turn c.args.inner.now.values_only c.args.inner.now.depth in
    let n = length c.args.cursor.now in
    let k = c.loop-turn._turn in
    grind (arith, common_steps, next_turn x n k c.loop-turn.found c.loop-turn.cursor (within statements c.args.inner.now.values_only c.args.inner.now.depth c.args.cursor.now) c.loop-turn.invariant (omega arith), c.block_turn.ensures (turns x (suc n - (k + 1))))

pub returns : goal.returns
returns g c =
    let x = within read.block_turn c.args.inner.now.values_only c.args.inner.now.depth in
    grind (arith, common_steps, c.loop-turn.invariant, over x (length c.args.cursor.now) c.loop-turn._turn c.loop-turn.found c.loop-turn.cursor (omega arith))
