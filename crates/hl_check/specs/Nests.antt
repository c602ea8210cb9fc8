-- Function values that check expressions of a depth.
use Rattle.std.specs.Prelude.{◌≡◌, ℕ, Result, OnOk}
use denote.Ref.{Bor, MutBor}
use Rattle.hl_syntax.specs.declared.kinds.HlType.{HlType}
use Rattle.hl_syntax.specs.declared.rules.Rule.{Rule}
use Rattle.hl_syntax.specs.declared.tree.Expr.{Expr}
use Rattle.hl_data.specs.declared.typed.TypedExpr.{TypedExpr}
use Rattle.simplicityhl.specs.Kinds.{IsSound}
use Rattle.hl_rules.specs.Exprs.{expr_walk}
use Rattle.hl_scope.specs.Checks.{ChecksMet}
use Rattle.hl_scope.specs.declared.body.Body.{Body}
use Rattle.hl_scope.specs.declared.context.Checker.{Checker}
use Rattle.hl_scope.specs.declared.refusal.CheckRefusal.{CheckRefusal}

-- a function value that may be called at a depth, and checks an expression as the walk does
pub record Nests (depth : ℕ) (pre : Bor Checker → ℕ → Bor Expr → Bor HlType → Rule → MutBor Body → Type 0)
    (post : Bor Checker → ℕ → Bor Expr → Bor HlType → Rule → MutBor Body → Result TypedExpr CheckRefusal → MutBor Body → Type 0) : Type 0 where
  pub callable : (k : Bor Checker) (e : Bor Expr) (expected : Bor HlType) (rule : Rule) (old : MutBor Body) → IsSound expected.now → pre k depth e expected rule old
  pub gives : (k : Bor Checker) (e : Bor Expr) (expected : Bor HlType) (rule : Rule) (old new : MutBor Body) (r : Result TypedExpr CheckRefusal) → post k depth e expected rule old r new
      → ChecksMet (expr_walk k.now e.now old.now.scope expected.now rule old.now.met) r new.now.met
  pub scope : (k : Bor Checker) (e : Bor Expr) (expected : Bor HlType) (rule : Rule) (old new : MutBor Body) (r : Result TypedExpr CheckRefusal) → post k depth e expected rule old r new
      → OnOk r (new.now.scope ≡ old.now.scope)
