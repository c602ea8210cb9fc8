-- Invariants of `write_hexadecimal`: the 32 hexadecimal digits of a number.
use Rattle.std.proofs.Common.{◌≡◌, ◌-◌, ◌++◌}
use Rattle.std.specs.Prelude.{string_bytes}
use Rattle.hl_values.specs.Printed.{hexadecimal}
use Rattle.hl_values.proofs.print.write_hexadecimal.Given as goal

abbrev pub invariant-loop-done : goal.invariant-loop-done
invariant-loop-done l = string_bytes l.text ++ hexadecimal (32 - l.done) l.number ≡ string_bytes l.fn.text ++ hexadecimal 32 l.number
