-- Whether a call of a jet or a loop stands in a typed tree.
use Rattle.std.specs.Prelude.{Bool, true, false, ◌||◌, List, [], ◌∷◌, map, Option, Some, None}
use Rattle.hl_data.specs.declared.typed.TypedArm.{TypedArm}
use Rattle.hl_data.specs.declared.typed.TypedExpr.{TypedExpr}
use Rattle.hl_data.specs.declared.typed.TypedForm.{TypedForm}
use Rattle.hl_data.specs.declared.typed.TypedForm.TheFolds.{fold-TypedExpr, fold-TypedForm, fold-TypedStatement, fold-TypedArm}
use Rattle.hl_data.specs.declared.typed.TypedForm.TheOpen.{TypedForm-F, TypedStatement-F, TypedArm-F, TypedExpr-F}
use Rattle.hl_data.specs.declared.typed.TypedFunction.{TypedFunction}
use Rattle.hl_data.specs.declared.typed.TypedStatement.{TypedStatement}

abbrev pub any_of : List Bool → Bool
any_of [] = false
any_of (part ∷ parts) = part || any_of parts

abbrev pub last_of : Option Bool → Bool
last_of (Some e) = e
last_of None = false

-- in some part; and jets and loops are such themselves
abbrev pub form_step : TypedForm-F Bool Bool Bool Bool → Bool
form_step (TypedForm-F.Jet name es) = true
form_step (TypedForm-F.Fold name count items start) = true
form_step (TypedForm-F.ArrayFold name count items start) = true
form_step (TypedForm-F.ForWhile name start context) = true
form_step (TypedForm-F.Block ss last) = any_of ss || last_of last
form_step (TypedForm-F.Match e arms) = e || any_of arms
form_step (TypedForm-F.Tuple es) = any_of es
form_step (TypedForm-F.Array es) = any_of es
form_step (TypedForm-F.List es) = any_of es
form_step (TypedForm-F.Call name es) = any_of es
form_step (TypedForm-F.Assert e) = e
form_step (TypedForm-F.Dbg e) = e
form_step (TypedForm-F.Into from e) = e
form_step (TypedForm-F.Unwrap e) = e
form_step (TypedForm-F.UnwrapLeft other e) = e
form_step (TypedForm-F.UnwrapRight other e) = e
form_step (TypedForm-F.IsNone item e) = e
form_step (TypedForm-F.Left e) = e
form_step (TypedForm-F.Right e) = e
form_step (TypedForm-F.Some e) = e
form_step TypedForm-F.Panic = false
form_step (TypedForm-F.Witness name) = false
form_step (TypedForm-F.Value v) = false
form_step TypedForm-F.Nothing = false
form_step TypedForm-F.True = false
form_step TypedForm-F.False = false
form_step (TypedForm-F.Literal text) = false
form_step (TypedForm-F.Name name) = false

abbrev pub statement_step : TypedStatement-F Bool Bool Bool Bool → Bool
statement_step (TypedStatement-F.Let pattern kind e) = e
statement_step (TypedStatement-F.Plain e) = e

abbrev pub arm_step : TypedArm-F Bool Bool Bool Bool → Bool
arm_step arm = arm.body

abbrev pub expr_step : TypedExpr-F Bool Bool Bool Bool → Bool
expr_step e = e.form

abbrev pub in_expr : TypedExpr → Bool
in_expr e = fold-TypedExpr Bool Bool Bool Bool form_step statement_step arm_step expr_step e

abbrev pub in_form : TypedForm → Bool
in_form form = fold-TypedForm Bool Bool Bool Bool form_step statement_step arm_step expr_step form

abbrev pub in_statement : TypedStatement → Bool
in_statement s = fold-TypedStatement Bool Bool Bool Bool form_step statement_step arm_step expr_step s

abbrev pub in_arm : TypedArm → Bool
in_arm arm = fold-TypedArm Bool Bool Bool Bool form_step statement_step arm_step expr_step arm

abbrev pub in_program : List TypedFunction → Bool
in_program functions = any_of (map (λ (f : TypedFunction). in_expr f.body) functions)
