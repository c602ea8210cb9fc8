-- Invariants of `emit_word`: the type of a word, by doubling from a bit.
use Rattle.std.proofs.Common.{◌≡◌, ◌+◌, ◌++◌, length}
use Rattle.infer_cells.specs.Emission.{word_cells}
use Rattle.infer_cells.proofs.emit.emit_word.Given as goal

abbrev pub invariant-loop : goal.invariant-loop
invariant-loop l = record {
  cells : l.cells.items ≡ l.fn.cells.items ++ word_cells l.counter (length l.fn.cells.items);
  last : l.last ≡ length l.fn.cells.items + 1 + l.counter;
}
