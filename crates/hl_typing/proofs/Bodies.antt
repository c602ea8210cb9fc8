-- Every expression that the walk lets through is typed, and is the source's.
use Rattle.std.proofs.Common.{◌≡◌, [], ◌∷◌, map, Some, None, refl, sym, subst}
use Rattle.hl_syntax.specs.declared.tree.Arm.{Arm, roll-Arm}
use Rattle.hl_syntax.specs.declared.tree.Expr.{Expr, roll-Expr}
use Rattle.hl_syntax.specs.declared.tree.ExprForm.{ExprForm, roll-ExprForm}
use Rattle.hl_syntax.specs.declared.tree.ExprForm.TheFolds.{fold-roll-ExprForm, fold-roll-Statement, fold_out-Expr, ind-Expr, map-ExprForm, map-Statement}
use Rattle.hl_syntax.specs.declared.tree.ExprForm.TheOpen.{ExprForm-F, Statement-F, Expr-F}
use Rattle.hl_syntax.specs.declared.tree.ExprForm.TheVariants as exprs
use Rattle.hl_syntax.specs.declared.tree.Statement.{Statement, roll-Statement}
use Rattle.hl_syntax.specs.declared.tree.Statement.TheVariants as statements
use Rattle.hl_rules.specs.Exprs.{ExprWalk, FormWalk, StatementWalk, ArmWalk, form_step, statement_step, arm_step, expr_step, expr_walk, form_walk, statement_walk}
use Rattle.hl_typing.specs.Typing as rule
use Rattle.hl_typing.proofs.Blocks.{ProvedArm, ArmClaim, ProvedStatement, GoodStatement, StatementClaim, statement_of, statements_of, arm_walk, block_with, block_without, let_good, match_good, plain_good}
use Rattle.hl_typing.proofs.Claims.{Setting, IsMet, GoodForm, GoodExpr, Claim, Proved, expr_of, exprs_of}
use Rattle.hl_typing.proofs.Leaves as leaves
use Rattle.hl_typing.proofs.Many as many
use Rattle.hl_typing.proofs.Steps.{then_good, done_good, refuse_good}

module _ (s : Setting) where
  abbrev FormClaim : ExprForm → Type 0
  FormClaim form = GoodForm s (form_walk s.context form) form

  abbrev ProvedForm : Type 0
  ProvedForm = (form : ExprForm) × FormClaim form

  abbrev form_of : ProvedForm → ExprForm
  form_of p = p.0

  abbrev arm_of : ProvedArm s → Arm
  arm_of p = p.0

  abbrev Layer : Type 0
  Layer = ExprForm-F ExprForm Statement Arm Expr

  abbrev walk_layer : Layer → FormWalk
  walk_layer layer = form_step s.context (map-ExprForm ExprForm Statement Arm Expr FormWalk StatementWalk ArmWalk ExprWalk (form_walk s.context) (statement_walk s.context) (arm_walk s) (expr_walk s.context) layer)

  -- a form by its parts
  made : (layer : Layer) (form : ExprForm) → roll-ExprForm layer ≡ form → GoodForm s (walk_layer layer) form → FormClaim (roll-ExprForm layer)
  made layer form is h =
      let walks : form_walk s.context (roll-ExprForm layer) ≡ walk_layer layer = fold-roll-ExprForm FormWalk StatementWalk ArmWalk ExprWalk (form_step s.context) (statement_step s.context) (arm_step s.context) (expr_step s.context) layer in
      subst (λ (w : FormWalk). GoodForm s w (roll-ExprForm layer)) (sym walks) (subst (GoodForm s (walk_layer layer)) (sym is) h)

  abbrev rolled : ExprForm-F ProvedForm (ProvedStatement s) (ProvedArm s) (Proved s) → ExprForm
  rolled y = roll-ExprForm (map-ExprForm ProvedForm (ProvedStatement s) (ProvedArm s) (Proved s) ExprForm Statement Arm Expr form_of (statement_of s) arm_of (expr_of s) y)

  form_claim : (y : ExprForm-F ProvedForm (ProvedStatement s) (ProvedArm s) (Proved s)) → FormClaim (rolled y)
  form_claim (ExprForm-F.Block ps None) = made (ExprForm-F.Block (statements_of s ps) None) (exprs.Block (statements_of s ps) None) (exprs.rolls-Block (statements_of s ps) None) (block_without s ps)
  form_claim (ExprForm-F.Block ps (Some e)) = made (ExprForm-F.Block (statements_of s ps) (Some e.0)) (exprs.Block (statements_of s ps) (Some e.0)) (exprs.rolls-Block (statements_of s ps) (Some e.0)) (block_with s ps e)
  form_claim (ExprForm-F.Match e []) = made (ExprForm-F.Match e.0 []) (exprs.Match e.0 []) (exprs.rolls-Match e.0 []) (λ span scope expected rule sound. refuse_good s.context (IsMet s))
  form_claim (ExprForm-F.Match e (one ∷ [])) = made (ExprForm-F.Match e.0 (one.0 ∷ [])) (exprs.Match e.0 (one.0 ∷ [])) (exprs.rolls-Match e.0 (one.0 ∷ [])) (λ span scope expected rule sound. refuse_good s.context (IsMet s))
  form_claim (ExprForm-F.Match e (one ∷ two ∷ [])) = made (ExprForm-F.Match e.0 (one.0 ∷ two.0 ∷ [])) (exprs.Match e.0 (one.0 ∷ two.0 ∷ [])) (exprs.rolls-Match e.0 (one.0 ∷ two.0 ∷ [])) (match_good s e one two)
  form_claim (ExprForm-F.Match e (one ∷ two ∷ three ∷ more)) =
      let arms = one.0 ∷ two.0 ∷ three.0 ∷ map arm_of more in
      made (ExprForm-F.Match e.0 arms) (exprs.Match e.0 arms) (exprs.rolls-Match e.0 arms) (λ span scope expected rule sound. refuse_good s.context (IsMet s))
  form_claim (ExprForm-F.Tuple ps) = made (ExprForm-F.Tuple (exprs_of s ps)) (exprs.Tuple (exprs_of s ps)) (exprs.rolls-Tuple (exprs_of s ps)) (many.tuple s ps)
  form_claim (ExprForm-F.Array ps) = made (ExprForm-F.Array (exprs_of s ps)) (exprs.Array (exprs_of s ps)) (exprs.rolls-Array (exprs_of s ps)) (many.array s ps)
  form_claim (ExprForm-F.List ps) = made (ExprForm-F.List (exprs_of s ps)) (exprs.List (exprs_of s ps)) (exprs.rolls-List (exprs_of s ps)) (many.list s ps)
  form_claim (ExprForm-F.Assert e) = made (ExprForm-F.Assert e.0) (exprs.Assert e.0) (exprs.rolls-Assert e.0) (leaves.assert s e)
  form_claim (ExprForm-F.Dbg e) = made (ExprForm-F.Dbg e.0) (exprs.Dbg e.0) (exprs.rolls-Dbg e.0) (leaves.dbg s e)
  form_claim ExprForm-F.Panic = made ExprForm-F.Panic exprs.Panic exprs.rolls-Panic (leaves.panic s)
  form_claim (ExprForm-F.Jet name ps) = made (ExprForm-F.Jet name (exprs_of s ps)) (exprs.Jet name (exprs_of s ps)) (exprs.rolls-Jet name (exprs_of s ps)) (many.jet s name ps)
  form_claim (ExprForm-F.Witness name) = made (ExprForm-F.Witness name) (exprs.Witness name) (exprs.rolls-Witness name) (leaves.witness s name)
  form_claim (ExprForm-F.Param name) = made (ExprForm-F.Param name) (exprs.Param name) (exprs.rolls-Param name) (leaves.param s name)
  form_claim (ExprForm-F.Into text e) = made (ExprForm-F.Into text e.0) (exprs.Into text e.0) (exprs.rolls-Into text e.0) (leaves.into s text e)
  form_claim (ExprForm-F.Unwrap e) = made (ExprForm-F.Unwrap e.0) (exprs.Unwrap e.0) (exprs.rolls-Unwrap e.0) (leaves.unwrap s e)
  form_claim (ExprForm-F.UnwrapLeft text e) = made (ExprForm-F.UnwrapLeft text e.0) (exprs.UnwrapLeft text e.0) (exprs.rolls-UnwrapLeft text e.0) (leaves.unwrap_left s text e)
  form_claim (ExprForm-F.UnwrapRight text e) = made (ExprForm-F.UnwrapRight text e.0) (exprs.UnwrapRight text e.0) (exprs.rolls-UnwrapRight text e.0) (leaves.unwrap_right s text e)
  form_claim (ExprForm-F.IsNone text e) = made (ExprForm-F.IsNone text e.0) (exprs.IsNone text e.0) (exprs.rolls-IsNone text e.0) (leaves.is_none s text e)
  form_claim (ExprForm-F.Fold name count one two) = made (ExprForm-F.Fold name count one.0 two.0) (exprs.Fold name count one.0 two.0) (exprs.rolls-Fold name count one.0 two.0) (many.fold s name count one two)
  form_claim (ExprForm-F.ArrayFold name count one two) = made (ExprForm-F.ArrayFold name count one.0 two.0) (exprs.ArrayFold name count one.0 two.0) (exprs.rolls-ArrayFold name count one.0 two.0) (many.array_fold s name count one two)
  form_claim (ExprForm-F.ForWhile name one two) = made (ExprForm-F.ForWhile name one.0 two.0) (exprs.ForWhile name one.0 two.0) (exprs.rolls-ForWhile name one.0 two.0) (many.for_while s name one two)
  form_claim (ExprForm-F.Left e) = made (ExprForm-F.Left e.0) (exprs.Left e.0) (exprs.rolls-Left e.0) (leaves.left s e)
  form_claim (ExprForm-F.Right e) = made (ExprForm-F.Right e.0) (exprs.Right e.0) (exprs.rolls-Right e.0) (leaves.right s e)
  form_claim (ExprForm-F.Some e) = made (ExprForm-F.Some e.0) (exprs.Some e.0) (exprs.rolls-Some e.0) (leaves.some s e)
  form_claim ExprForm-F.Nothing = made ExprForm-F.Nothing exprs.Nothing exprs.rolls-Nothing (leaves.nothing s)
  form_claim ExprForm-F.True = made ExprForm-F.True exprs.True exprs.rolls-True (leaves.truth s)
  form_claim ExprForm-F.False = made ExprForm-F.False exprs.False exprs.rolls-False (leaves.falsehood s)
  form_claim (ExprForm-F.Literal word) = made (ExprForm-F.Literal word) (exprs.Literal word) (exprs.rolls-Literal word) (leaves.literal s word)
  form_claim (ExprForm-F.Call name ps) = made (ExprForm-F.Call name (exprs_of s ps)) (exprs.Call name (exprs_of s ps)) (exprs.rolls-Call name (exprs_of s ps)) (many.call s name ps)
  form_claim (ExprForm-F.Name name) = made (ExprForm-F.Name name) (exprs.Name name) (exprs.rolls-Name name) (leaves.variable s name)

  statement_claim : (y : Statement-F ProvedForm (ProvedStatement s) (ProvedArm s) (Proved s)) → StatementClaim s (roll-Statement (map-Statement ProvedForm (ProvedStatement s) (ProvedArm s) (Proved s) ExprForm Statement Arm Expr form_of (statement_of s) arm_of (expr_of s) y))
  statement_claim (Statement-F.Let pattern text e stands) =
      let layer : Statement-F ExprForm Statement Arm Expr = Statement-F.Let pattern text e.0 stands in
      let walks = fold-roll-Statement FormWalk StatementWalk ArmWalk ExprWalk (form_step s.context) (statement_step s.context) (arm_step s.context) (expr_step s.context) layer in
      subst (λ (w : StatementWalk). GoodStatement s w (roll-Statement layer)) (sym walks)
      (subst (λ (st : Statement). GoodStatement s (statement_step s.context (Statement-F.Let pattern text (expr_walk s.context e.0) stands)) st) (sym (statements.rolls-Let pattern text e.0 stands)) (let_good s pattern text e stands))
  statement_claim (Statement-F.Plain e) =
      let layer : Statement-F ExprForm Statement Arm Expr = Statement-F.Plain e.0 in
      let walks = fold-roll-Statement FormWalk StatementWalk ArmWalk ExprWalk (form_step s.context) (statement_step s.context) (arm_step s.context) (expr_step s.context) layer in
      subst (λ (w : StatementWalk). GoodStatement s w (roll-Statement layer)) (sym walks)
      (subst (λ (st : Statement). GoodStatement s (statement_step s.context (Statement-F.Plain (expr_walk s.context e.0))) st) (sym (statements.rolls-Plain e.0)) (plain_good s e))

  expr_claim : (e : Expr) → FormClaim e.form → Claim s e
  expr_claim e claim scope expected rule' sound =
      let walks = fold_out-Expr FormWalk StatementWalk ArmWalk ExprWalk (form_step s.context) (statement_step s.context) (arm_step s.context) (expr_step s.context) e in
      subst (λ (w : ExprWalk). GoodExpr s w e) (sym walks)
      (λ scope expected rule' sound. then_good s.context (IsMet s) (claim e.span scope expected rule' sound) (λ found. done_good s.context (IsMet s) (λ part. record {
        typed = rule.expr scope expected (record { kind = expected; form = found }) refl sound part.typed;
        erased = part.erased;
      }))) scope expected rule' sound

  pub expr_good : (e : Expr) → Claim s e
  expr_good =
      ind-Expr FormClaim (StatementClaim s) (ArmClaim s) (Claim s)
      (λ x y is. subst (λ z. FormClaim (roll-ExprForm z)) is (form_claim y))
      (λ x y is. subst (λ z. StatementClaim s (roll-Statement z)) is (statement_claim y))
      (λ x y is. subst (λ z. ArmClaim s (roll-Arm z)) is y.body.1)
      (λ x y is. expr_claim (roll-Expr x) (subst (λ (e : Expr-F ExprForm Statement Arm Expr). FormClaim e.form) is y.form.1))
