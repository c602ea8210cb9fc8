-- Invariants of `to_witness` in `names`.
use Rattle.std.proofs.Common.{◌≡◌, ◌++◌, None, drop, map, replicate}
use Rattle.scope_layout.specs.Paths.{at_name}
use Rattle.scope_layout.proofs.names.to_witness.Given as goal

abbrev pub invariant-witnesses : goal.invariant-witnesses
invariant-witnesses l = map (λ w. at_name l.name w.name) l.witnesses ≡ replicate l.place None ++ map (λ w. at_name l.name w.name) (drop l.place l.witnesses)
