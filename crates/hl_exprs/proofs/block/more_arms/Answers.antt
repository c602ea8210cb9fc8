-- Answers to the goals of `more_arms`: what stands after the opening brace of a match.
use Rattle.std.proofs.Common.{suc, ◌+◌, ◌-◌, length, arith}
use Rattle.std.proofs.lemmas.Grind.{common_steps}
use Rattle.hl_grammar.specs.Readers.{turns}
use Rattle.hl_grammar.specs.Read as read
use Rattle.hl_operands.specs.Exprs.{within, more_arms}
use Rattle.hl_cursor.proofs.Turns.{next_turn, over}
use Rattle.hl_exprs.proofs.block.more_arms.Goals as goal

pub returns-in_err-arms_turn : goal.returns-in_err-arms_turn
returns-in_err-arms_turn g c =
    let x = within read.arms_turn c.args.inner.now.values_only c.args.inner.now.depth in
    let n = length c.args.cursor.now in
    let k = c.loop-turn._turn in
    grind (arith, common_steps, next_turn x n k c.loop-turn.found c.loop-turn.cursor (within more_arms c.args.inner.now.values_only c.args.inner.now.depth c.args.cursor.now) c.loop-turn.invariant (omega arith), c.arms_turn.ensures (turns x (suc n - (k + 1))))

pub returns-in-Last : goal.returns-in-Last
returns-in-Last g c =
    let x = within read.arms_turn c.args.inner.now.values_only c.args.inner.now.depth in
    let n = length c.args.cursor.now in
    let k = c.loop-turn._turn in
    grind (arith, common_steps, next_turn x n k c.loop-turn.found c.loop-turn.cursor (within more_arms c.args.inner.now.values_only c.args.inner.now.depth c.args.cursor.now) c.loop-turn.invariant (omega arith), c.arms_turn.ensures (turns x (suc n - (k + 1))))

pub loop-turn-preserved : goal.loop-turn-preserved
loop-turn-preserved g c =
    let x = within read.arms_turn c.args.inner.now.values_only c.args.inner.now.depth in
    let n = length c.args.cursor.now in
    let k = c.loop-turn._turn in
    grind (arith, common_steps, next_turn x n k c.loop-turn.found c.loop-turn.cursor (within more_arms c.args.inner.now.values_only c.args.inner.now.depth c.args.cursor.now) c.loop-turn.invariant (omega arith), c.arms_turn.ensures (turns x (suc n - (k + 1))))

pub returns : goal.returns
returns g c =
    let x = within read.arms_turn c.args.inner.now.values_only c.args.inner.now.depth in
    grind (arith, common_steps, c.loop-turn.invariant, over x (length c.args.cursor.now) c.loop-turn._turn c.loop-turn.found c.loop-turn.cursor (omega arith))
