-- Invariants of `print` in `print`.
use Rattle.std.proofs.Common.{◌≡◌, ◌++◌, map, take}
use Rattle.std.specs.Prelude.{string_bytes}
use Rattle.hl_values.specs.Printed.{joined, printed}
use Rattle.hl_values.proofs.print.+print.Given as goal

abbrev pub invariant-write_joined-values : goal.invariant-write_joined-values
invariant-write_joined-values l = string_bytes l.text ≡ string_bytes l.fn.text ++ joined (map printed (take l.place l.value-items))
