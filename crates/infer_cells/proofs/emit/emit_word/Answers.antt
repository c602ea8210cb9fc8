-- Answers to the goals of `emit_word`: the type of a word, by doubling from a bit.
use Rattle.std.proofs.Common.{arith}
use Rattle.infer_cells.proofs.Doubles.{word_next}
use Rattle.infer_cells.proofs.emit.emit_word.Goals as goal

pub loop-preserved : goal.loop-preserved
loop-preserved c = record {
  cells = word_next c.args.cells.now.items c.loop.cells.items c.push.new.cells.items c.loop.counter c.loop.last c.loop.invariant.cells c.loop.invariant.last c.in_ok-push.ensures;
  last = omega (arith, c.loop.invariant.last);
}
