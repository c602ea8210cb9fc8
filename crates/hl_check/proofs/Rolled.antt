-- The walk of each form by its parts, and what is passed on.
use Rattle.std.proofs.Common.{◌≡◌, List, [], ◌∷◌, ◌++◌, map, Option, Some, None, option_map, refl, sym, ap, ◌∙◌, subst, Result, Ok, Err, IsErrAnd}
use Rattle.hl_syntax.specs.declared.kinds.HlType.{HlType}
use Rattle.hl_syntax.specs.declared.kinds.TypedName.{TypedName}
use Rattle.hl_syntax.specs.declared.rules.Rule.{Rule}
use Rattle.hl_syntax.specs.declared.rules.Rule.TheVariants.{K6, K13}
use Rattle.hl_syntax.specs.declared.token.Mark.{Mark}
use Rattle.hl_syntax.specs.declared.token.Span.{Span}
use Rattle.hl_syntax.specs.declared.tree.Arm.{Arm, out-Arm}
use Rattle.hl_syntax.specs.declared.tree.Expr.{Expr}
use Rattle.hl_syntax.specs.declared.tree.ExprForm.{ExprForm}
use Rattle.hl_syntax.specs.declared.tree.ExprForm.TheOpen.{ExprForm-F}
use Rattle.hl_syntax.specs.declared.tree.ExprForm.TheFolds.{fold-roll-ExprForm, fold_out-Arm}
use Rattle.hl_syntax.specs.declared.tree.ExprForm.TheVariants as exprs
use Rattle.hl_syntax.specs.declared.tree.Statement.{Statement}
use Rattle.hl_data.specs.declared.typed.TypedExpr.{TypedExpr}
use Rattle.hl_data.specs.declared.typed.TypedForm.{TypedForm}
use Rattle.hl_data.specs.declared.typed.TypedForm.TheVariants as typed
use Rattle.hl_data.specs.declared.typed.TypedSide.{TypedSide}
use Rattle.simplicityhl.specs.Written.{Broken}
use Rattle.hl_rules.specs.Places.{Context, Scope}
use Rattle.hl_rules.specs.Exprs.{ExprWalk, FormWalk, StatementWalk, ArmWalk, form_step, statement_step, arm_step, expr_step, expr_walk, statement_walk, form_walk, are_sides, side_walk, matched_type, match_walk}
use Rattle.hl_rules.specs.Steps as steps
use Rattle.hl_check.specs.Arms.{arm_walk}
use Rattle.hl_scope.specs.Checks.{ChecksMet, ChecksAs}
use Rattle.hl_scope.specs.declared.refusal.CheckRefusal.{CheckRefusal}

pub passed : {X A : Type 0} (view : X → A) (found : Result A Broken) (refusal : CheckRefusal) (result : Result X CheckRefusal) → ChecksAs view found (Err refusal) → IsErrAnd result (λ e. e ≡ refusal) → ChecksAs view found result
passed view found refusal (Ok x) h k = absurd k
passed view found refusal (Err e) h k = subst (λ (r : CheckRefusal). ChecksAs view found (Err r)) (sym k) h

-- what a form gives whose walk is this one
pub walked : (c : Context) (form : ExprForm) (step : FormWalk) (span : Span) (scope : Scope) (expected : HlType) (rule : Rule) (met new : List TypedName) (result : Result TypedForm CheckRefusal) →
    form_walk c form ≡ step → ChecksMet (step span scope expected rule met) result new → ChecksMet (form_walk c form span scope expected rule met) result new
walked c form step span scope expected rule met new result is h = subst (λ (w : FormWalk). ChecksMet (w span scope expected rule met) result new) (sym is) h

module _ (c : Context) where
  pub walk-Block : (form : ExprForm) (statements given : List Statement) (last : Option Expr) → form ≡ exprs.Block statements last → given ≡ statements → form_walk c form ≡ form_step c (ExprForm-F.Block (map (statement_walk c) given) (option_map (expr_walk c) last))
  walk-Block form statements given None is same = rw same (ap (form_walk c) (is ∙ sym (exprs.rolls-Block statements None)) ∙ fold-roll-ExprForm FormWalk StatementWalk ArmWalk ExprWalk (form_step c) (statement_step c) (arm_step c) (expr_step c) (ExprForm-F.Block statements None))
  walk-Block form statements given (Some last) is same = rw same (ap (form_walk c) (is ∙ sym (exprs.rolls-Block statements (Some last))) ∙ fold-roll-ExprForm FormWalk StatementWalk ArmWalk ExprWalk (form_step c) (statement_step c) (arm_step c) (expr_step c) (ExprForm-F.Block statements (Some last)))

  pub walk-Match : (form : ExprForm) (e e_got : Expr) (arms arms_got : List Arm) → form ≡ exprs.Match e arms → e_got ≡ e → arms_got ≡ arms → form_walk c form ≡ form_step c (ExprForm-F.Match (expr_walk c e_got) (map (arm_walk c) arms_got))
  walk-Match form e e_got arms arms_got is e_same arms_same = rw (e_same, arms_same) (ap (form_walk c) (is ∙ sym (exprs.rolls-Match e arms)) ∙ fold-roll-ExprForm FormWalk StatementWalk ArmWalk ExprWalk (form_step c) (statement_step c) (arm_step c) (expr_step c) (ExprForm-F.Match e arms))

  pub walk-Tuple : (form : ExprForm) (parts parts_got : List Expr) → form ≡ exprs.Tuple parts → parts_got ≡ parts → form_walk c form ≡ form_step c (ExprForm-F.Tuple (map (expr_walk c) parts_got))
  walk-Tuple form parts parts_got is parts_same = rw parts_same (ap (form_walk c) (is ∙ sym (exprs.rolls-Tuple parts)) ∙ fold-roll-ExprForm FormWalk StatementWalk ArmWalk ExprWalk (form_step c) (statement_step c) (arm_step c) (expr_step c) (ExprForm-F.Tuple parts))

  pub walk-Array : (form : ExprForm) (parts parts_got : List Expr) → form ≡ exprs.Array parts → parts_got ≡ parts → form_walk c form ≡ form_step c (ExprForm-F.Array (map (expr_walk c) parts_got))
  walk-Array form parts parts_got is parts_same = rw parts_same (ap (form_walk c) (is ∙ sym (exprs.rolls-Array parts)) ∙ fold-roll-ExprForm FormWalk StatementWalk ArmWalk ExprWalk (form_step c) (statement_step c) (arm_step c) (expr_step c) (ExprForm-F.Array parts))

  pub walk-List : (form : ExprForm) (parts parts_got : List Expr) → form ≡ exprs.List parts → parts_got ≡ parts → form_walk c form ≡ form_step c (ExprForm-F.List (map (expr_walk c) parts_got))
  walk-List form parts parts_got is parts_same = rw parts_same (ap (form_walk c) (is ∙ sym (exprs.rolls-List parts)) ∙ fold-roll-ExprForm FormWalk StatementWalk ArmWalk ExprWalk (form_step c) (statement_step c) (arm_step c) (expr_step c) (ExprForm-F.List parts))

  pub walk-Jet : (form : ExprForm) (name : Mark) (parts parts_got : List Expr) → form ≡ exprs.Jet name parts → parts_got ≡ parts → form_walk c form ≡ form_step c (ExprForm-F.Jet name (map (expr_walk c) parts_got))
  walk-Jet form name parts parts_got is parts_same = rw parts_same (ap (form_walk c) (is ∙ sym (exprs.rolls-Jet name parts)) ∙ fold-roll-ExprForm FormWalk StatementWalk ArmWalk ExprWalk (form_step c) (statement_step c) (arm_step c) (expr_step c) (ExprForm-F.Jet name parts))

  pub walk-Call : (form : ExprForm) (name : Mark) (parts parts_got : List Expr) → form ≡ exprs.Call name parts → parts_got ≡ parts → form_walk c form ≡ form_step c (ExprForm-F.Call name (map (expr_walk c) parts_got))
  walk-Call form name parts parts_got is parts_same = rw parts_same (ap (form_walk c) (is ∙ sym (exprs.rolls-Call name parts)) ∙ fold-roll-ExprForm FormWalk StatementWalk ArmWalk ExprWalk (form_step c) (statement_step c) (arm_step c) (expr_step c) (ExprForm-F.Call name parts))

  pub walk-Fold : (form : ExprForm) (name : Mark) (count : Mark) (one one_got : Expr) (two two_got : Expr) → form ≡ exprs.Fold name count one two → one_got ≡ one → two_got ≡ two → form_walk c form ≡ form_step c (ExprForm-F.Fold name count (expr_walk c one_got) (expr_walk c two_got))
  walk-Fold form name count one one_got two two_got is one_same two_same = rw (one_same, two_same) (ap (form_walk c) (is ∙ sym (exprs.rolls-Fold name count one two)) ∙ fold-roll-ExprForm FormWalk StatementWalk ArmWalk ExprWalk (form_step c) (statement_step c) (arm_step c) (expr_step c) (ExprForm-F.Fold name count one two))

  pub walk-ArrayFold : (form : ExprForm) (name : Mark) (count : Mark) (one one_got : Expr) (two two_got : Expr) → form ≡ exprs.ArrayFold name count one two → one_got ≡ one → two_got ≡ two → form_walk c form ≡ form_step c (ExprForm-F.ArrayFold name count (expr_walk c one_got) (expr_walk c two_got))
  walk-ArrayFold form name count one one_got two two_got is one_same two_same = rw (one_same, two_same) (ap (form_walk c) (is ∙ sym (exprs.rolls-ArrayFold name count one two)) ∙ fold-roll-ExprForm FormWalk StatementWalk ArmWalk ExprWalk (form_step c) (statement_step c) (arm_step c) (expr_step c) (ExprForm-F.ArrayFold name count one two))

  pub walk-ForWhile : (form : ExprForm) (name : Mark) (one one_got : Expr) (two two_got : Expr) → form ≡ exprs.ForWhile name one two → one_got ≡ one → two_got ≡ two → form_walk c form ≡ form_step c (ExprForm-F.ForWhile name (expr_walk c one_got) (expr_walk c two_got))
  walk-ForWhile form name one one_got two two_got is one_same two_same = rw (one_same, two_same) (ap (form_walk c) (is ∙ sym (exprs.rolls-ForWhile name one two)) ∙ fold-roll-ExprForm FormWalk StatementWalk ArmWalk ExprWalk (form_step c) (statement_step c) (arm_step c) (expr_step c) (ExprForm-F.ForWhile name one two))

  arm_is : (arm : Arm) → arm_walk c arm ≡ record { side = (out-Arm arm).side; body = expr_walk c (out-Arm arm).body }
  arm_is arm = fold_out-Arm FormWalk StatementWalk ArmWalk ExprWalk (form_step c) (statement_step c) (arm_step c) (expr_step c) arm

  -- a match of two arms
  pub match_two : (e : ExprWalk) (arms : List Arm) (one two : Arm) (span : Span) (scope : Scope) (expected : HlType) (rule : Rule) (met : List TypedName) → arms ≡ one ∷ two ∷ [] →
      form_step c (ExprForm-F.Match e (map (arm_walk c) arms)) span scope expected rule met
      ≡ match_walk c.aliases e (record { side = (out-Arm one).side; body = expr_walk c (out-Arm one).body }) (record { side = (out-Arm two).side; body = expr_walk c (out-Arm two).body }) span scope expected rule met
  match_two e arms one two span scope expected rule met is = rw (is, arm_is one, arm_is two) refl

-- a match by its steps, none of which is refused
pub match_found : (aliases : List TypedName) (e : ExprWalk) (one two : ArmWalk) (span : Span) (scope : Scope) (expected : HlType) (rule : Rule)
    (first second : TypedSide) (first_bound second_bound : Scope) (value first_body second_body : TypedExpr) (met after_value after_first after_second : List TypedName) →
    steps.needs (are_sides one.side two.side) K13 span ≡ Ok tt → side_walk aliases one.side ≡ Ok (first, first_bound) → side_walk aliases two.side ≡ Ok (second, second_bound) →
    e scope (matched_type first second) K6 met ≡ Ok (value, after_value) → one.body (first_bound ++ scope) expected K6 after_value ≡ Ok (first_body, after_first) →
    two.body (second_bound ++ scope) expected K6 after_first ≡ Ok (second_body, after_second) →
    match_walk aliases e one two span scope expected rule met ≡ Ok (typed.Match value (record { side = first; body = first_body } ∷ record { side = second; body = second_body } ∷ []), after_second)
match_found aliases e one two span scope expected rule first second first_bound second_bound value first_body second_body met after_value after_first after_second a b d f g h = rw (a, b, d, f, g, h) refl
