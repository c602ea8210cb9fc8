-- Invariants of `items`: the items, one after the other.
use Rattle.std.proofs.Common.{◌≡◌, map}
use Rattle.hl_rules.specs.Exprs.{expr_walk, items_walk}
use Rattle.hl_check.proofs.Exprs.{items_from}
use Rattle.hl_check.proofs.checking.Checking.items.Given as goal

abbrev pub invariant-items : goal.invariant-items
invariant-items g l =
    let c = l.self.checker.now in
    record {
      found : items_from c l.parts l.item l.part-index l.body.scope l.found l.body.met ≡ items_walk (map (expr_walk c) l.parts) l.item l.initial.body.scope l.initial.body.met;
      scope : l.body.scope ≡ l.initial.body.scope;
    }
