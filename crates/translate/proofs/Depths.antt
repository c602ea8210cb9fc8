-- An item of a list is no deeper than the list.
use Rattle.std.proofs.Common.{◌≡◌, ℕ, zero, suc, ◌<◌, ◌≤◌, max, length, List, [], ◌∷◌, get_or, arith, Option, Some, None, ap, sym, refl, subst}
use Rattle.hl_data.specs.declared.typed.TypedArm.{TypedArm, size-TypedArm}
use Rattle.hl_data.specs.declared.typed.TypedExpr.{TypedExpr, size-TypedExpr}
use Rattle.hl_data.specs.declared.typed.TypedForm.TheShapes.{weighed-TypedForm-Block-0, weighed-TypedForm-Block-1, weighed-TypedForm-Match-1}
use Rattle.hl_data.specs.declared.typed.TypedStatement.{TypedStatement, size-TypedStatement}

arm_in_list : (xs : List TypedArm) (i : ℕ) (d : TypedArm) → i < length xs → size-TypedArm (get_or xs i d) ≤ (weighed-TypedForm-Match-1).weight TypedArm size-TypedArm xs
arm_in_list [] i d less = absurd (omega (arith, less))
arm_in_list (x ∷ xs) zero d less = omega arith
arm_in_list (x ∷ xs) (suc i) d less = let rest = arm_in_list xs i d (omega (arith, less)) in omega (arith, rest)

statement_in_list : (xs : List TypedStatement) (i : ℕ) (d : TypedStatement) → i < length xs → size-TypedStatement (get_or xs i d) ≤ (weighed-TypedForm-Block-0).weight TypedStatement size-TypedStatement xs
statement_in_list [] i d less = absurd (omega (arith, less))
statement_in_list (x ∷ xs) zero d less = omega arith
statement_in_list (x ∷ xs) (suc i) d less = let rest = statement_in_list xs i d (omega (arith, less)) in omega (arith, rest)

pub arm_below : (xs ys : List TypedArm) (i : ℕ) (x : TypedArm) → xs ≡ ys → i < length xs → x ≡ get_or xs i x → size-TypedArm x ≤ (weighed-TypedForm-Match-1).weight TypedArm size-TypedArm ys
arm_below xs ys i x same less at =
    subst (λ l. size-TypedArm x ≤ (weighed-TypedForm-Match-1).weight TypedArm size-TypedArm l) same
    (subst (λ y. size-TypedArm y ≤ (weighed-TypedForm-Match-1).weight TypedArm size-TypedArm xs) (sym at) (arm_in_list xs i x less))

pub statement_below : (xs ys : List TypedStatement) (i : ℕ) (x : TypedStatement) → xs ≡ ys → i < length xs → x ≡ get_or xs i x →
    size-TypedStatement x ≤ (weighed-TypedForm-Block-0).weight TypedStatement size-TypedStatement ys
statement_below xs ys i x same less at =
    subst (λ l. size-TypedStatement x ≤ (weighed-TypedForm-Block-0).weight TypedStatement size-TypedStatement l) same
    (subst (λ y. size-TypedStatement y ≤ (weighed-TypedForm-Block-0).weight TypedStatement size-TypedStatement xs) (sym at) (statement_in_list xs i x less))

pub last_below : (o : Option TypedExpr) (e : TypedExpr) → o ≡ Some e → size-TypedExpr e ≤ (weighed-TypedForm-Block-1).weight TypedExpr size-TypedExpr o
last_below o e is = subst (λ x. size-TypedExpr e ≤ (weighed-TypedForm-Block-1).weight TypedExpr size-TypedExpr x) (sym is) (omega arith)
