-- The walk of each form and of its parts, where the expressions in it are walked as `Checking` says.
use Rattle.std.specs.Prelude.{List, ◌++◌, map, Option, option_map, Result}
use Rattle.hl_syntax.specs.declared.kinds.HlType.{HlType}
use Rattle.hl_syntax.specs.declared.kinds.TypedName.{TypedName}
use Rattle.hl_syntax.specs.declared.rules.Rule.{Rule}
use Rattle.hl_syntax.specs.declared.rules.Rule.TheVariants.{K6}
use Rattle.hl_syntax.specs.declared.token.Mark.{Mark}
use Rattle.hl_syntax.specs.declared.token.Span.{Span}
use Rattle.hl_syntax.specs.declared.tree.Arm.{Arm, out-Arm}
use Rattle.hl_syntax.specs.declared.tree.Expr.{Expr}
use Rattle.hl_syntax.specs.declared.tree.ExprForm.TheOpen.{ExprForm-F}
use Rattle.hl_syntax.specs.declared.tree.Pattern.{Pattern}
use Rattle.hl_syntax.specs.declared.tree.Statement.{Statement}
use Rattle.hl_syntax.specs.declared.tree.TypeText.{TypeText}
use Rattle.hl_data.specs.declared.typed.TypedExpr.{TypedExpr}
use Rattle.hl_data.specs.declared.typed.TypedForm.{TypedForm}
use Rattle.hl_data.specs.declared.typed.TypedStatement.{TypedStatement}
use Rattle.hl_rules.specs.Exprs.{ExprWalk, FormWalk, StatementWalk, expr_walk, form_step, items_walk, last_walk, let_walk, match_walk, parts_walk, plain_walk, statement_walk, statements_walk}
use Rattle.hl_rules.specs.Places.{Context, Scope}
use Rattle.hl_rules.specs.Walks.{Walk}
use Rattle.hl_scope.specs.Checks.{ChecksAt}
use Rattle.hl_scope.specs.declared.asked.Asked.{Asked}
use Rattle.hl_scope.specs.declared.body.Body.{Body}
use Rattle.hl_scope.specs.declared.refusal.CheckRefusal.{CheckRefusal}
use Rattle.hl_check.specs.Arms.{arm_walk}
use Rattle.hl_check.specs.declared.checking.Checking.{Checking}

module _ {F : Type 0} (checking : Checking F) where
  abbrev c : Context
  c = checking.checker.now

  abbrev pub expr_in : Expr → ExprWalk
  expr_in e = expr_walk c e

  -- Expressions one after the other: at their types, at the types of parameters, at one type.

  abbrev pub parts_in : List Expr → List HlType → Scope → Walk (List TypedExpr)
  parts_in parts kinds = parts_walk (map (expr_walk c) parts) kinds

  abbrev pub arguments_in : List Expr → List TypedName → Scope → Walk (List TypedExpr)
  arguments_in parts params = parts_walk (map (expr_walk c) parts) (map (λ p. p.kind) params)

  abbrev pub items_in : List Expr → HlType → Scope → Walk (List TypedExpr)
  items_in parts item = items_walk (map (expr_walk c) parts) item

  -- Statements, the end of a block, and the body of an arm that binds these variables.

  abbrev pub let_in : Pattern → TypeText → Expr → StatementWalk
  let_in pattern text value = let_walk c.aliases pattern text (expr_walk c value)

  abbrev pub plain_in : Expr → StatementWalk
  plain_in e = plain_walk (expr_walk c e)

  abbrev pub statements_in : List Statement → Scope → Walk (List TypedStatement × Scope)
  statements_in statements = statements_walk (map (statement_walk c) statements)

  abbrev pub last_in : Option Expr → Span → Scope → HlType → Rule → Walk (Option TypedExpr)
  last_in last = last_walk (option_map (expr_walk c) last)

  abbrev pub arm_in : Expr → Scope → HlType → Scope → Walk TypedExpr
  arm_in e bound expected scope = expr_walk c e (bound ++ scope) expected K6

  -- Forms.

  abbrev pub block_form : List Statement → Option Expr → FormWalk
  block_form statements last = form_step c (ExprForm-F.Block (map (statement_walk c) statements) (option_map (expr_walk c) last))

  abbrev pub match_form : Expr → List Arm → FormWalk
  match_form e arms = form_step c (ExprForm-F.Match (expr_walk c e) (map (arm_walk c) arms))

  abbrev pub two_arms_form : Expr → Arm → Arm → FormWalk
  two_arms_form e one two = match_walk c.aliases (expr_walk c e) (record { side = (out-Arm one).side; body = expr_walk c (out-Arm one).body })
      (record { side = (out-Arm two).side; body = expr_walk c (out-Arm two).body })

  abbrev pub tuple_form : List Expr → FormWalk
  tuple_form parts = form_step c (ExprForm-F.Tuple (map (expr_walk c) parts))

  abbrev pub array_form : List Expr → FormWalk
  array_form parts = form_step c (ExprForm-F.Array (map (expr_walk c) parts))

  abbrev pub list_form : List Expr → FormWalk
  list_form parts = form_step c (ExprForm-F.List (map (expr_walk c) parts))

  abbrev pub assert_form : Expr → FormWalk
  assert_form e = form_step c (ExprForm-F.Assert (expr_walk c e))

  abbrev pub dbg_form : Expr → FormWalk
  dbg_form e = form_step c (ExprForm-F.Dbg (expr_walk c e))

  abbrev pub jet_form : Mark → List Expr → FormWalk
  jet_form name parts = form_step c (ExprForm-F.Jet name (map (expr_walk c) parts))

  abbrev pub call_form : Mark → List Expr → FormWalk
  call_form name parts = form_step c (ExprForm-F.Call name (map (expr_walk c) parts))

  abbrev pub into_form : TypeText → Expr → FormWalk
  into_form text e = form_step c (ExprForm-F.Into text (expr_walk c e))

  abbrev pub unwrap_form : Expr → FormWalk
  unwrap_form e = form_step c (ExprForm-F.Unwrap (expr_walk c e))

  abbrev pub unwrap_left_form : TypeText → Expr → FormWalk
  unwrap_left_form text e = form_step c (ExprForm-F.UnwrapLeft text (expr_walk c e))

  abbrev pub unwrap_right_form : TypeText → Expr → FormWalk
  unwrap_right_form text e = form_step c (ExprForm-F.UnwrapRight text (expr_walk c e))

  abbrev pub is_none_form : TypeText → Expr → FormWalk
  is_none_form text e = form_step c (ExprForm-F.IsNone text (expr_walk c e))

  abbrev pub left_form : Expr → FormWalk
  left_form e = form_step c (ExprForm-F.Left (expr_walk c e))

  abbrev pub right_form : Expr → FormWalk
  right_form e = form_step c (ExprForm-F.Right (expr_walk c e))

  abbrev pub some_form : Expr → FormWalk
  some_form e = form_step c (ExprForm-F.Some (expr_walk c e))

  -- Loops, with what is answered of them.

  abbrev pub Folds : Mark → Mark → Expr → Expr → Asked → Result TypedForm CheckRefusal → Body → Body → Type 0
  Folds name count list total asked result old new = ChecksAt (form_step c (ExprForm-F.Fold name count (expr_walk c list) (expr_walk c total))) asked result old new

  abbrev pub FoldsAll : Mark → Mark → Expr → Expr → Asked → Result TypedForm CheckRefusal → Body → Body → Type 0
  FoldsAll name count array total asked result old new = ChecksAt (form_step c (ExprForm-F.ArrayFold name count (expr_walk c array) (expr_walk c total))) asked result old new

  abbrev pub TurnsWhile : Mark → Expr → Expr → Asked → Result TypedForm CheckRefusal → Body → Body → Type 0
  TurnsWhile name total context asked result old new = ChecksAt (form_step c (ExprForm-F.ForWhile name (expr_walk c total) (expr_walk c context))) asked result old new
