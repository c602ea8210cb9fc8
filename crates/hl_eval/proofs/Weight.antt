-- The weight of functions: what is left of a program whose calls go to functions before.
use Rattle.std.proofs.Common.{◌≡◌, ℕ, zero, suc, ◌+◌, ◌<◌, List, [], ◌∷◌, take, Some, ap, arith}
use Rattle.std.specs.Prelude.{slice_get}
use Rattle.hl_data.specs.declared.typed.TypedExpr.{size-TypedExpr}
use Rattle.hl_data.specs.declared.typed.TypedFunction.{TypedFunction}

pub weight_of : List TypedFunction → ℕ
weight_of [] = 0
weight_of (f ∷ fs) = suc (size-TypedExpr f.body + weight_of fs)

-- a function with those before it weighs less than all
pub lighter : (fs : List TypedFunction) (p : ℕ) (f : TypedFunction) → slice_get fs p ≡ Some f → weight_of (take p fs) + size-TypedExpr f.body < weight_of fs
unfolding weight_of
lighter [] p f e = cc
lighter (g ∷ fs) zero f e = let same : g ≡ f = cc in let size : size-TypedExpr g.body ≡ size-TypedExpr f.body = ap (λ h. size-TypedExpr h.body) same in omega arith
lighter (g ∷ fs) (suc p) f e = let rest = lighter fs p f e in omega arith
