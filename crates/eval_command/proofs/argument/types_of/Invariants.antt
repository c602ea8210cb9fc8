-- Invariants of `types_of`: the types of parameters.
use Rattle.std.proofs.Common.{◌≡◌, map}
use Rattle.std.proofs.Math.ListN.{take}
use Rattle.eval_command.proofs.argument.types_of.Given as goal

abbrev pub invariant-params : goal.invariant-params
invariant-params l = l.kinds ≡ map (λ p. p.kind) (take l.param-index l.params)
