-- Invariants of `params`: the parameters of a function with their types.
use Rattle.std.proofs.Common.{◌≡◌, [], drop}
use Rattle.hl_types.specs.Walks.{AreSound}
use Rattle.hl_rules.specs.Declared.{params_walk}
use Rattle.hl_scope.proofs.declared.params.Given as goal

abbrev pub invariant-params : goal.invariant-params
invariant-params l = record {
  found : params_walk l.aliases (drop l.one-index l.params) l.met ≡ params_walk l.aliases l.params [];
  sound : AreSound l.met;
}
