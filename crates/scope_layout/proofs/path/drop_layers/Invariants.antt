-- Invariants of `drop_layers` in `path`.
use Rattle.std.proofs.Common.{◌≡◌, ◌++◌, replicate}
use Rattle.scope_layout.specs.declared.path.Step.TheVariants as step
use Rattle.scope_layout.proofs.path.drop_layers.Given as goal

abbrev pub invariant-layers : goal.invariant-layers
invariant-layers l = l.route ≡ replicate l.counter step.Drop ++ l.initial.route
