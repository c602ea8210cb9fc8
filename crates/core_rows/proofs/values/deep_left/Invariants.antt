-- Invariants of `deep_left`: a value of so many tags on the left, and its type, with One on the right of
-- each sum.
use Rattle.simplicity.specs.Types.{IsOf}
use Rattle.core_data.specs.Data.{kind_of, value_of}
use Rattle.core_rows.proofs.values.deep_left.Given as goal

abbrev pub invariant-levels : goal.invariant-levels
invariant-levels l = IsOf (value_of l.value) (kind_of l.kind)
