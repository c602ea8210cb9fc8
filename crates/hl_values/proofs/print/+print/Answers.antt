-- Answers to the goals of `print` in `print`.
use Rattle.hl_values.proofs.Printing.{value_written}
use Rattle.hl_values.proofs.print.+print.Goals as goal

pub write_joined-values-preserved : goal.write_joined-values-preserved
write_joined-values-preserved t c =
    value_written _ _ _ _ c.as_slice-value-items.result.now c.values.place c.value-item.result c.values-test.true c.value-item.is c.values.invariant c.in_ok-write_separator.ensures c.in_ok-write_value.ensures
