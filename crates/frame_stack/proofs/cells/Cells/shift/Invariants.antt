-- Invariants of `shift`: the cells so far are copied.
use Rattle.std.proofs.Common.{◌≡◌, drop}
use lib.Seq as seq
use Rattle.frame_stack.proofs.cells.Cells.shift.Given as goal

abbrev pub invariant-loop-done : goal.invariant-loop-done
invariant-loop-done l = l.self-inside.cells.items ≡ seq.paste l.initial.self-inside.cells.items l.to (drop l.from l.initial.self-inside.cells.items) l.done
