-- Invariants of `arguments`: arguments at the types of parameters, one after the other.
use Rattle.std.proofs.Common.{◌≡◌, map}
use Rattle.hl_rules.specs.Exprs.{expr_walk, parts_walk}
use Rattle.hl_check.proofs.Exprs.{arguments_from}
use Rattle.hl_check.proofs.checking.Checking.arguments.Given as goal

abbrev pub invariant-parts : goal.invariant-parts
invariant-parts g l =
    let c = l.self.checker.now in
    record {
      found : arguments_from c l.parts l.params l.place l.body.scope l.found l.body.met ≡ parts_walk (map (expr_walk c) l.parts) (map (λ p. p.kind) l.params) l.initial.body.scope l.initial.body.met;
      scope : l.body.scope ≡ l.initial.body.scope;
    }
