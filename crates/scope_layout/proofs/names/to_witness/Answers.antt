-- Answers to the goals of `to_witness` in `names`.
use Rattle.std.proofs.Common.{length, ap, sym, arith}
use Rattle.scope_layout.specs.Paths.{at_name}
use Rattle.scope_layout.proofs.Places.{found_nowhere}
use Rattle.scope_layout.proofs.names.to_witness.Goals as goal

pub returns : goal.returns
returns c =
    sym (found_nowhere (λ w. at_name c.args.name.now w.name) c.args.witnesses.now c.witnesses.place (omega (arith, c.witnesses-test.false, ap length c.as_slice-witness-items.ensures)) c.witnesses.invariant)
