-- The names in a tree by its outermost layer.
use Rattle.std.proofs.Common.{◌≡◌, [], ◌∷◌, ◌++◌, sym, ap, ◌∙◌}
use Rattle.hl_data.specs.declared.typed.TypedArm.{TypedArm}
use Rattle.hl_data.specs.declared.typed.TypedExpr.{TypedExpr}
use Rattle.hl_data.specs.declared.typed.TypedForm.{TypedForm, roll-TypedForm}
use Rattle.hl_data.specs.declared.typed.TypedForm.TheFolds.{fold-roll-TypedForm, fold-roll-TypedStatement, fold_out-TypedExpr, fold_out-TypedArm, map-TypedForm}
use Rattle.hl_data.specs.declared.typed.TypedForm.TheOpen.{TypedForm-F, TypedStatement-F}
use Rattle.hl_data.specs.declared.typed.TypedStatement.{TypedStatement}
use Rattle.hl_data.specs.declared.typed.TypedStatement.TheVariants as typed_statements
use Rattle.hl_syntax.specs.declared.kinds.HlType.{HlType}
use Rattle.hl_syntax.specs.declared.token.Span.{Span}
use Rattle.hl_syntax.specs.declared.tree.Arm.{Arm}
use Rattle.hl_syntax.specs.declared.tree.Expr.{Expr}
use Rattle.hl_syntax.specs.declared.tree.ExprForm.{ExprForm, roll-ExprForm}
use Rattle.hl_syntax.specs.declared.tree.ExprForm.TheFolds.{fold-roll-ExprForm, fold-roll-Statement, fold_out-Expr, fold_out-Arm, map-ExprForm}
use Rattle.hl_syntax.specs.declared.tree.ExprForm.TheOpen.{ExprForm-F, Statement-F}
use Rattle.hl_syntax.specs.declared.tree.Pattern.{Pattern}
use Rattle.hl_syntax.specs.declared.tree.Statement.{Statement}
use Rattle.hl_syntax.specs.declared.tree.Statement.TheVariants as statements
use Rattle.hl_syntax.specs.declared.tree.TypeText.{TypeText}
use Rattle.hl_rules.specs.Witnesses.{Names, names_step, statement_names_step, form_names, statement_names, arm_names, expr_names}
use Rattle.hl_typing.specs.Names.{ArmNames, Order, form_step, statement_step, arm_step, expr_step, names_in_form, names_in_statement, names_in_arm, names_in}

abbrev pub Layer : Type 0
Layer = ExprForm-F ExprForm Statement Arm Expr

abbrev pub source_layer : Layer → Names
source_layer layer =
    names_step (map-ExprForm ExprForm Statement Arm Expr Names Names Names Names form_names statement_names arm_names expr_names layer)

pub source_form : (layer : Layer) (form : ExprForm) → roll-ExprForm layer ≡ form → form_names form ≡ source_layer layer
source_form layer form is =
    ap form_names (sym is)
    ∙ fold-roll-ExprForm Names Names Names Names names_step statement_names_step (λ arm. arm.body) (λ e. e.form) layer

pub source_expr : (e : Expr) → expr_names e ≡ form_names e.form
source_expr e = fold_out-Expr Names Names Names Names names_step statement_names_step (λ arm. arm.body) (λ e. e.form) e

pub source_arm : (arm : Arm) → arm_names arm ≡ expr_names arm.body
source_arm arm = fold_out-Arm Names Names Names Names names_step statement_names_step (λ arm. arm.body) (λ e. e.form) arm

pub source_let : (p : Pattern) (text : TypeText) (e : Expr) (span : Span) → statement_names (statements.Let p text e span) ≡ expr_names e
source_let p text e span =
    ap statement_names (sym (statements.rolls-Let p text e span))
    ∙ fold-roll-Statement Names Names Names Names names_step statement_names_step (λ arm. arm.body) (λ e. e.form) (Statement-F.Let p text e span)

pub source_plain : (e : Expr) → statement_names (statements.Plain e) ≡ expr_names e
source_plain e =
    ap statement_names (sym (statements.rolls-Plain e))
    ∙ fold-roll-Statement Names Names Names Names names_step statement_names_step (λ arm. arm.body) (λ e. e.form) (Statement-F.Plain e)

abbrev pub TypedLayer : Type 0
TypedLayer = TypedForm-F TypedForm TypedStatement TypedArm TypedExpr

module _ (order : Order) where
  abbrev pub typed_layer : TypedLayer → Names
  typed_layer layer =
      form_step order (map-TypedForm TypedForm TypedStatement TypedArm TypedExpr Names Names ArmNames Names
      (names_in_form order) (names_in_statement order) (names_in_arm order) (names_in order) layer)

  pub typed_form : (layer : TypedLayer) (form : TypedForm) → roll-TypedForm layer ≡ form → names_in_form order form ≡ typed_layer layer
  unfolding names_in_form names_in_statement names_in_arm names_in
  typed_form layer form is =
      ap (names_in_form order) (sym is)
      ∙ fold-roll-TypedForm Names Names ArmNames Names (form_step order) (statement_step order) (arm_step order) (expr_step order) layer

  pub typed_expr : (e : TypedExpr) → names_in order e ≡ names_in_form order e.form
  unfolding names_in_form names_in
  typed_expr e = fold_out-TypedExpr Names Names ArmNames Names (form_step order) (statement_step order) (arm_step order) (expr_step order) e

  -- an arm by its side and the names in its body
  abbrev pub arm_of : TypedArm → ArmNames
  arm_of arm = record { side = arm.side; names = names_in order arm.body }

  pub typed_arm : (arm : TypedArm) → names_in_arm order arm ≡ arm_of arm
  unfolding names_in_arm names_in
  typed_arm arm = fold_out-TypedArm Names Names ArmNames Names (form_step order) (statement_step order) (arm_step order) (expr_step order) arm

  pub typed_arms : (e : TypedExpr) (one two : TypedArm) →
      typed_layer (TypedForm-F.Match e (one ∷ two ∷ [])) ≡ names_in order e ++ order (arm_of one ∷ arm_of two ∷ [])
  typed_arms e one two =
      ap (λ a. names_in order e ++ order (a ∷ names_in_arm order two ∷ [])) (typed_arm one)
      ∙ ap (λ a. names_in order e ++ order (arm_of one ∷ a ∷ [])) (typed_arm two)

  pub typed_let : (p : Pattern) (k : HlType) (e : TypedExpr) → names_in_statement order (typed_statements.Let p k e) ≡ names_in order e
  unfolding names_in_statement names_in
  typed_let p k e =
      ap (names_in_statement order) (sym (typed_statements.rolls-Let p k e))
      ∙ fold-roll-TypedStatement Names Names ArmNames Names (form_step order) (statement_step order) (arm_step order) (expr_step order)
      (TypedStatement-F.Let p k e)

  pub typed_plain : (e : TypedExpr) → names_in_statement order (typed_statements.Plain e) ≡ names_in order e
  unfolding names_in_statement names_in
  typed_plain e =
      ap (names_in_statement order) (sym (typed_statements.rolls-Plain e))
      ∙ fold-roll-TypedStatement Names Names ArmNames Names (form_step order) (statement_step order) (arm_step order) (expr_step order)
      (TypedStatement-F.Plain e)
