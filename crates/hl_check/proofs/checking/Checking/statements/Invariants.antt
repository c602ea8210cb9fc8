-- Invariants of `statements`: statements, one after the other.
use Rattle.std.proofs.Common.{◌≡◌, map}
use Rattle.hl_rules.specs.Exprs.{statement_walk, statements_walk}
use Rattle.hl_check.specs.Scopes.{IsInner}
use Rattle.hl_check.proofs.Exprs.{statements_from}
use Rattle.hl_check.proofs.checking.Checking.statements.Given as goal

abbrev pub invariant-statements : goal.invariant-statements
invariant-statements g l =
    let c = l.self.checker.now in
    record {
      found : statements_from c l.statements l.statement-index l.found l.body.scope l.body.met ≡ statements_walk (map (statement_walk c) l.statements) l.initial.body.scope l.initial.body.met;
      inner : IsInner l.initial.body.scope l.body.scope;
    }
