-- Forms of written values at layers of types.
use Rattle.std.proofs.Common.{◌≡◌, sym, ap, ◌∙◌}
use Rattle.hl_syntax.specs.declared.kinds.HlType.{HlType}
use Rattle.hl_syntax.specs.declared.kinds.HlType.TheOpen.{HlType-F}
use Rattle.hl_syntax.specs.declared.kinds.HlType.TheViews.{roll-HlType, out-roll-HlType}
use Rattle.hl_syntax.specs.declared.tree.Arm.{Arm}
use Rattle.hl_syntax.specs.declared.tree.Expr.{Expr}
use Rattle.hl_syntax.specs.declared.tree.ExprForm.{ExprForm, map-ExprForm, roll-ExprForm}
use Rattle.hl_syntax.specs.declared.tree.ExprForm.TheOpen.{ExprForm-F}
use Rattle.hl_syntax.specs.declared.tree.ExprForm.TheViews.{out-ExprForm, out-roll-ExprForm}
use Rattle.hl_syntax.specs.declared.tree.ExprForm.TheFolds.{fold_out-ExprForm, fold_out-Expr, fold-Statement, fold-Arm}
use Rattle.hl_syntax.specs.declared.tree.Statement.{Statement}
use Rattle.hl_syntax.specs.declared.token.Span.{Span}
use Rattle.simplicityhl.specs.Grammar.{expr_of}
use Rattle.hl_values.specs.Written.{AtType, written, written_form, form_step, form_at}

abbrev pub parts_of : ExprForm-F ExprForm Statement Arm Expr → ExprForm-F AtType (Unit {0}) (Unit {0}) AtType
parts_of w = map-ExprForm ExprForm Statement Arm Expr AtType (Unit {0}) (Unit {0}) AtType written_form
    (λ s. fold-Statement AtType (Unit {0}) (Unit {0}) AtType form_step (λ s. tt) (λ a. tt) (λ e. e.form) s)
    (λ a. fold-Arm AtType (Unit {0}) (Unit {0}) AtType form_step (λ s. tt) (λ a. tt) (λ e. e.form) a) written w

-- a form of a written value at a layer of a type
pub written_rolled : (y : ExprForm-F ExprForm Statement Arm Expr) (x : HlType-F HlType) (form : ExprForm) (span : Span) (k : HlType) → roll-ExprForm y ≡ form → roll-HlType x ≡ k → written (expr_of form span) k ≡ form_at (parts_of y) x
written_rolled y x form span k form_is k_is =
    ap (λ f. written (expr_of f span) k) (sym form_is) ∙ ap (written (expr_of (roll-ExprForm y) span)) (sym k_is)
    ∙ ap (λ f. f (roll-HlType x)) (fold_out-Expr AtType (Unit {0}) (Unit {0}) AtType form_step (λ s. tt) (λ a. tt) (λ e. e.form) (expr_of (roll-ExprForm y) span))
    ∙ ap (λ f. f (roll-HlType x)) (fold_out-ExprForm AtType (Unit {0}) (Unit {0}) AtType form_step (λ s. tt) (λ a. tt) (λ e. e.form) (roll-ExprForm y))
    ∙ ap (form_at (parts_of (out-ExprForm (roll-ExprForm y)))) (out-roll-HlType x)
    ∙ ap (λ w. form_at (parts_of w) x) (out-roll-ExprForm y)
