-- The parameters that stand in a program.
use Rattle.std.specs.Prelude.{ℕ, List, [], ◌∷◌, ◌++◌, bytes_eq, fold, flat_map, Option, Some, None, if◌then◌else◌}
use Rattle.std.specs.List.{list_any}
use Rattle.hl_syntax.specs.declared.tree.Arm.{Arm}
use Rattle.hl_syntax.specs.declared.tree.Expr.{Expr}
use Rattle.hl_syntax.specs.declared.tree.ExprForm.{ExprForm}
use Rattle.hl_syntax.specs.declared.tree.Item.{Item}
use Rattle.hl_syntax.specs.declared.tree.Item.TheVariants as items
use Rattle.hl_syntax.specs.declared.tree.Statement.{Statement}
use Rattle.hl_syntax.specs.declared.tree.ExprForm.TheOpen.{ExprForm-F, Statement-F, Arm-F, Expr-F}
use Rattle.hl_syntax.specs.declared.tree.ExprForm.TheFolds.{fold-Expr, fold-ExprForm, fold-Statement, fold-Arm}

-- names in the order in which they stand
abbrev pub Found : Type 0
Found = List (List ℕ)

-- those of the parts, one after the other
abbrev pub all_of : List Found → Found
all_of [] = []
all_of (part ∷ parts) = part ++ all_of parts

abbrev pub last_of : Option Found → Found
last_of (Some e) = e
last_of None = []

abbrev pub form_step : ExprForm-F Found Found Found Found → Found
form_step (ExprForm-F.Block statements last) = all_of statements ++ last_of last
form_step (ExprForm-F.Match e arms) = e ++ all_of arms
form_step (ExprForm-F.Tuple es) = all_of es
form_step (ExprForm-F.Array es) = all_of es
form_step (ExprForm-F.List es) = all_of es
form_step (ExprForm-F.Assert e) = e
form_step (ExprForm-F.Dbg e) = e
form_step ExprForm-F.Panic = []
form_step (ExprForm-F.Jet name es) = all_of es
form_step (ExprForm-F.Witness name) = []
form_step (ExprForm-F.Param name) = name.text ∷ []
form_step (ExprForm-F.Into type e) = e
form_step (ExprForm-F.Unwrap e) = e
form_step (ExprForm-F.UnwrapLeft type e) = e
form_step (ExprForm-F.UnwrapRight type e) = e
form_step (ExprForm-F.IsNone type e) = e
form_step (ExprForm-F.Fold function count list start) = list ++ start
form_step (ExprForm-F.ArrayFold function count array start) = array ++ start
form_step (ExprForm-F.ForWhile function start context) = start ++ context
form_step (ExprForm-F.Left e) = e
form_step (ExprForm-F.Right e) = e
form_step (ExprForm-F.Some e) = e
form_step ExprForm-F.Nothing = []
form_step ExprForm-F.True = []
form_step ExprForm-F.False = []
form_step (ExprForm-F.Literal word) = []
form_step (ExprForm-F.Call name es) = all_of es
form_step (ExprForm-F.Name name) = []

abbrev pub statement_step : Statement-F Found Found Found Found → Found
statement_step (Statement-F.Let pattern type e span) = e
statement_step (Statement-F.Plain e) = e

abbrev pub arm_step : Arm-F Found Found Found Found → Found
arm_step arm = arm.body

abbrev pub expr_step : Expr-F Found Found Found Found → Found
expr_step e = e.form

-- the names of all parameters of the program that stand in an expression
abbrev pub in_expr : Expr → Found
in_expr e = fold-Expr Found Found Found Found form_step statement_step arm_step expr_step e

abbrev pub in_form : ExprForm → Found
in_form form = fold-ExprForm Found Found Found Found form_step statement_step arm_step expr_step form

abbrev pub in_statement : Statement → Found
in_statement s = fold-Statement Found Found Found Found form_step statement_step arm_step expr_step s

abbrev pub in_arm : Arm → Found
in_arm arm = fold-Arm Found Found Found Found form_step statement_step arm_step expr_step arm

abbrev pub in_item : Item → Found
in_item (items.Alias name type span) = []
in_item (items.Function name params type body span) = in_expr body

abbrev pub in_program : List Item → Found
in_program program = flat_map in_item program

-- names with one more, unless it is among them
abbrev pub with_name : Found → List ℕ → Found
with_name names name = if list_any (bytes_eq name) names then names else names ++ name ∷ []

-- names that more are put behind, each where it isn't there
abbrev pub with_names : Found → Found → Found
with_names names more = fold with_name names more

-- each of the parameters of a program once, in the order in which they first stand
abbrev pub param_names : List Item → Found
param_names program = with_names [] (in_program program)
