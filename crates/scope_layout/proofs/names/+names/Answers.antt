-- Answers to the goals of `names` in `names`.
use Rattle.std.proofs.Common.{length, ap, sym, arith}
use Rattle.scope_layout.specs.Paths.{variable_path}
use Rattle.scope_layout.proofs.Places.{found_nowhere}
use Rattle.scope_layout.proofs.names.+names.Goals as goal

pub to_part-returns : goal.to_part-returns
to_part-returns t c =
    sym (found_nowhere (variable_path c.args.name.now) c.args.parts.now c.parts.place (omega (arith, c.parts-test.false, ap length c.as_slice-part-items.ensures)) c.parts.invariant)
