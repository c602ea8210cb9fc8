-- Both walks of an expression by those of its parts.
use Rattle.std.proofs.Common.{◌≡◌, Bool, true, false, ◌&&◌, List, map, Ok, refl, sym, ap, ◌∙◌, IsTrue}
use Rattle.std.specs.List.{list_all}
use Rattle.hl_syntax.specs.declared.kinds.HlType.{HlType}
use Rattle.hl_syntax.specs.declared.kinds.HlType.TheViews.{out-HlType}
use Rattle.hl_syntax.specs.declared.token.Span.{Span}
use Rattle.hl_syntax.specs.declared.tree.Arm.{Arm}
use Rattle.hl_syntax.specs.declared.tree.Expr.{Expr}
use Rattle.hl_syntax.specs.declared.tree.ExprForm.{ExprForm, map-ExprForm, roll-ExprForm}
use Rattle.hl_syntax.specs.declared.tree.ExprForm.TheOpen.{ExprForm-F}
use Rattle.hl_syntax.specs.declared.tree.ExprForm.TheViews.{out-ExprForm, out-roll-ExprForm}
use Rattle.hl_syntax.specs.declared.tree.ExprForm.TheFolds.{fold_out-ExprForm, fold_out-Expr, fold-ExprForm, fold-Statement, fold-Arm}
use Rattle.hl_syntax.specs.declared.tree.Statement.{Statement}
use Rattle.simplicityhl.specs.Grammar.{expr_of}
use Rattle.simplicityhl.specs.Written.{then_walk}
use Rattle.hl_rules.specs.Exprs as walks
use Rattle.hl_rules.specs.Exprs.{ExprWalk, FormWalk, StatementWalk, ArmWalk, statement_step, arm_step, expr_step, expr_walk, statement_walk, form_walk}
use Rattle.hl_rules.specs.Places.{Context}
use Rattle.hl_values.specs.Written as values
use Rattle.hl_values.specs.Written.{AtType, written, written_form, form_at}
use Rattle.hl_value_walks.specs.Agree.{value_step, is_value}

abbrev pub Layer : Type 0
Layer = ExprForm-F ExprForm Statement Arm Expr

-- the parts as they are read

abbrev pub read_parts : Layer → ExprForm-F AtType (Unit {0}) (Unit {0}) AtType
read_parts w = map-ExprForm ExprForm Statement Arm Expr AtType (Unit {0}) (Unit {0}) AtType written_form
    (λ s. fold-Statement AtType (Unit {0}) (Unit {0}) AtType values.form_step (λ s. tt) (λ a. tt) (λ e. e.form) s)
    (λ a. fold-Arm AtType (Unit {0}) (Unit {0}) AtType values.form_step (λ s. tt) (λ a. tt) (λ e. e.form) a) written w

pub read_layer : (tree : Expr) (k : HlType) → written tree k ≡ form_at (read_parts (out-ExprForm tree.form)) (out-HlType k)
read_layer tree k =
    ap (λ f. f k) (fold_out-Expr AtType (Unit {0}) (Unit {0}) AtType values.form_step (λ s. tt) (λ a. tt) (λ e. e.form) tree)
    ∙ ap (λ f. f k) (fold_out-ExprForm AtType (Unit {0}) (Unit {0}) AtType values.form_step (λ s. tt) (λ a. tt) (λ e. e.form) tree.form)

-- whether they are of forms of values

abbrev pub value_parts : Layer → ExprForm-F Bool (Unit {0}) (Unit {0}) Bool
value_parts w = map-ExprForm ExprForm Statement Arm Expr Bool (Unit {0}) (Unit {0}) Bool
    (λ f. fold-ExprForm Bool (Unit {0}) (Unit {0}) Bool value_step (λ s. tt) (λ a. tt) (λ e. e.form) f)
    (λ s. fold-Statement Bool (Unit {0}) (Unit {0}) Bool value_step (λ s. tt) (λ a. tt) (λ e. e.form) s)
    (λ a. fold-Arm Bool (Unit {0}) (Unit {0}) Bool value_step (λ s. tt) (λ a. tt) (λ e. e.form) a) is_value w

pub value_layer : (tree : Expr) → is_value tree ≡ value_step (value_parts (out-ExprForm tree.form))
value_layer tree =
    fold_out-Expr Bool (Unit {0}) (Unit {0}) Bool value_step (λ s. tt) (λ a. tt) (λ e. e.form) tree
    ∙ fold_out-ExprForm Bool (Unit {0}) (Unit {0}) Bool value_step (λ s. tt) (λ a. tt) (λ e. e.form) tree.form

pub value_rolled : (w : Layer) (form : ExprForm) (span : Span) → roll-ExprForm w ≡ form →
    is_value (expr_of form span) ≡ value_step (value_parts w)
value_rolled w form span is =
    ap (λ f. is_value (expr_of f span)) (sym is) ∙ value_layer (expr_of (roll-ExprForm w) span)
    ∙ ap (λ y. value_step (value_parts y)) (out-roll-ExprForm w)

abbrev pub AreValues : List Expr → Type 0
AreValues es = IsTrue (list_all (λ part. part) (map is_value es))

pub both_true : (a b : Bool) → IsTrue (a && b) → IsTrue a × IsTrue b
both_true true b h = (refl, h)
both_true false b h = cc

-- the parts as they are checked

module _ (c : Context) where
  abbrev pub walked_parts : Layer → ExprForm-F FormWalk StatementWalk ArmWalk ExprWalk
  walked_parts w = map-ExprForm ExprForm Statement Arm Expr FormWalk StatementWalk ArmWalk ExprWalk (form_walk c) (statement_walk c)
      (λ a. fold-Arm FormWalk StatementWalk ArmWalk ExprWalk (walks.form_step c) (statement_step c) (arm_step c) (expr_step c) a) (expr_walk c) w

  -- a form's walk at its span, and its type beside what it gives
  abbrev pub with_type : Span → FormWalk → ExprWalk
  with_type span f scope expected rule met =
      then_walk (f span scope expected rule met) (λ found. Ok (record { kind = expected; form = found.0 }, found.1))

  pub walk_layer : (tree : Expr) → expr_walk c tree ≡ with_type tree.span (walks.form_step c (walked_parts (out-ExprForm tree.form)))
  walk_layer tree =
      fold_out-Expr FormWalk StatementWalk ArmWalk ExprWalk (walks.form_step c) (statement_step c) (arm_step c) (expr_step c) tree
      ∙ ap (with_type tree.span)
      (fold_out-ExprForm FormWalk StatementWalk ArmWalk ExprWalk (walks.form_step c) (statement_step c) (arm_step c) (expr_step c) tree.form)
