-- Invariants of `parts` in `checking`.
use Rattle.std.proofs.Common.{◌≡◌, map}
use Rattle.hl_rules.specs.Exprs.{expr_walk, parts_walk}
use Rattle.hl_check.proofs.Exprs.{parts_from}
use Rattle.hl_check.proofs.checking.Checking.parts.Given as goal

abbrev pub invariant-parts : goal.invariant-parts
invariant-parts g l =
    let c = l.self.checker.now in
    record {
      found : parts_from c l.parts l.kinds l.place l.body.scope l.found l.body.met ≡ parts_walk (map (expr_walk c) l.parts) l.kinds l.initial.body.scope l.initial.body.met;
      scope : l.body.scope ≡ l.initial.body.scope;
    }
