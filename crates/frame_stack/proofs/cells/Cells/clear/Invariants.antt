-- Invariants of `clear`: the cells so far are undefined.
use Rattle.std.proofs.Common.{◌≡◌}
use Rattle.std.specs.Prelude.{replicate}
use lib.Seq as seq
use Rattle.frame_stack.specs.declared.cells.Cell.TheVariants as code
use Rattle.frame_stack.proofs.cells.Cells.clear.Given as goal

abbrev pub invariant-loop-done : goal.invariant-loop-done
invariant-loop-done l = l.self-inside.cells.items ≡ seq.paste l.initial.self-inside.cells.items l.from (replicate l.done code.Undefined) l.done
