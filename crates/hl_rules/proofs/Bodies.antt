-- Expressions by induction: what their walk answers is broken at its place.
use Rattle.std.proofs.Common.{◌≡◌, [], ◌∷◌, ◌++◌, map, Some, None, refl, sym, ap, ◌∙◌, subst}
use Rattle.hl_syntax.specs.declared.tree.Arm.{Arm, roll-Arm}
use Rattle.hl_syntax.specs.declared.tree.Expr.{Expr, roll-Expr}
use Rattle.hl_syntax.specs.declared.tree.ExprForm.{ExprForm, roll-ExprForm}
use Rattle.hl_syntax.specs.declared.tree.ExprForm.TheFolds.{fold-roll-ExprForm, fold-roll-Statement, fold_out-Expr, ind-Expr, map-ExprForm, map-Statement}
use Rattle.hl_syntax.specs.declared.tree.ExprForm.TheOpen.{ExprForm-F, Statement-F, Expr-F}
use Rattle.hl_syntax.specs.declared.tree.ExprForm.TheVariants as exprs
use Rattle.hl_syntax.specs.declared.tree.Statement.{Statement, roll-Statement}
use Rattle.hl_syntax.specs.declared.tree.Statement.TheVariants as statements
use Rattle.hl_rules.specs.Breaks as breaks
use Rattle.hl_rules.specs.Exprs.{ExprWalk, FormWalk, StatementWalk, ArmWalk, form_step, statement_step, arm_step, expr_step, expr_walk, form_walk, statement_walk}
use Rattle.hl_rules.specs.Witnesses.{Names, names_step, statement_names_step, form_names, statement_names, expr_names, arm_names}
use Rattle.hl_rules.proofs.Fine.{Fine, then_fine}
use Rattle.hl_rules.proofs.Here.{Setting, ◌⊙◌, Meets, At, Bad, Claim, Proved, expr_of, exprs_of, context, place, rule_of}
use Rattle.hl_rules.proofs.Blocks.{ProvedArm, ProvedStatement, StatementAt, StatementClaim, statement_of, statements_of, arm_walk, block_with, block_without, let_fine, match_two, plain_fine}
use Rattle.hl_rules.proofs.Leaves as leaves
use Rattle.hl_rules.proofs.Many as many

module _ (s : Setting) where
  abbrev FormClaim : ExprForm → Type 0
  FormClaim form = At s (form_walk (context s) form) (form_names form) form

  abbrev ArmClaim : Arm → Type 0
  ArmClaim arm = Claim s arm.body

  abbrev ProvedForm : Type 0
  ProvedForm = (form : ExprForm) × FormClaim form

  abbrev form_of : ProvedForm → ExprForm
  form_of p = p.0

  abbrev arm_of : ProvedArm s → Arm
  arm_of p = p.0

  abbrev Layer : Type 0
  Layer = ExprForm-F ExprForm Statement Arm Expr

  abbrev walk_layer : Layer → FormWalk
  walk_layer layer = form_step (context s) (map-ExprForm ExprForm Statement Arm Expr FormWalk StatementWalk ArmWalk ExprWalk (form_walk (context s)) (statement_walk (context s)) (arm_walk s) (expr_walk (context s)) layer)

  abbrev names_layer : Layer → Names
  names_layer layer = names_step (map-ExprForm ExprForm Statement Arm Expr Names Names Names Names form_names statement_names arm_names expr_names layer)

  -- a form by its parts
  made : (layer : Layer) (form : ExprForm) → roll-ExprForm layer ≡ form → At s (walk_layer layer) (names_layer layer) form → FormClaim (roll-ExprForm layer)
  made layer form is h =
      let walks : form_walk (context s) (roll-ExprForm layer) ≡ walk_layer layer = fold-roll-ExprForm FormWalk StatementWalk ArmWalk ExprWalk (form_step (context s)) (statement_step (context s)) (arm_step (context s)) (expr_step (context s)) layer in
      let names : form_names (roll-ExprForm layer) ≡ names_layer layer = fold-roll-ExprForm Names Names Names Names names_step statement_names_step (λ arm. arm.body) (λ e. e.form) layer in
      subst (λ (w : FormWalk). At s w (form_names (roll-ExprForm layer)) (roll-ExprForm layer)) (sym walks)
      (subst (λ (n : Names). At s (walk_layer layer) n (roll-ExprForm layer)) (sym names) (subst (At s (walk_layer layer) (names_layer layer)) (sym is) h))

  abbrev rolled : ExprForm-F ProvedForm (ProvedStatement s) (ProvedArm s) (Proved s) → ExprForm
  rolled y = roll-ExprForm (map-ExprForm ProvedForm (ProvedStatement s) (ProvedArm s) (Proved s) ExprForm Statement Arm Expr form_of (statement_of s) arm_of (expr_of s) y)

  form_claim : (y : ExprForm-F ProvedForm (ProvedStatement s) (ProvedArm s) (Proved s)) → FormClaim (rolled y)
  form_claim (ExprForm-F.Block ps None) = made (ExprForm-F.Block (statements_of s ps) None) (exprs.Block (statements_of s ps) None) (exprs.rolls-Block (statements_of s ps) None) (block_without s ps)
  form_claim (ExprForm-F.Block ps (Some e)) = made (ExprForm-F.Block (statements_of s ps) (Some e.0)) (exprs.Block (statements_of s ps) (Some e.0)) (exprs.rolls-Block (statements_of s ps) (Some e.0)) (block_with s ps e)
  form_claim (ExprForm-F.Match e []) = made (ExprForm-F.Match e.0 []) (exprs.Match e.0 []) (exprs.rolls-Match e.0 []) (λ span h at. breaks.k13 (place s h) e.0 [] span at refl)
  form_claim (ExprForm-F.Match e (one ∷ [])) = made (ExprForm-F.Match e.0 (one.0 ∷ [])) (exprs.Match e.0 (one.0 ∷ [])) (exprs.rolls-Match e.0 (one.0 ∷ [])) (λ span h at. breaks.k13 (place s h) e.0 (one.0 ∷ []) span at refl)
  form_claim (ExprForm-F.Match e (one ∷ two ∷ [])) = made (ExprForm-F.Match e.0 (one.0 ∷ two.0 ∷ [])) (exprs.Match e.0 (one.0 ∷ two.0 ∷ [])) (exprs.rolls-Match e.0 (one.0 ∷ two.0 ∷ [])) (match_two s e one two)
  form_claim (ExprForm-F.Match e (one ∷ two ∷ three ∷ more)) =
      let arms = one.0 ∷ two.0 ∷ three.0 ∷ map arm_of more in
      made (ExprForm-F.Match e.0 arms) (exprs.Match e.0 arms) (exprs.rolls-Match e.0 arms) (λ span h at. breaks.k13 (place s h) e.0 arms span at refl)
  form_claim (ExprForm-F.Tuple ps) = made (ExprForm-F.Tuple (exprs_of s ps)) (exprs.Tuple (exprs_of s ps)) (exprs.rolls-Tuple (exprs_of s ps)) (many.tuple s ps)
  form_claim (ExprForm-F.Array ps) = made (ExprForm-F.Array (exprs_of s ps)) (exprs.Array (exprs_of s ps)) (exprs.rolls-Array (exprs_of s ps)) (many.array s ps)
  form_claim (ExprForm-F.List ps) = made (ExprForm-F.List (exprs_of s ps)) (exprs.List (exprs_of s ps)) (exprs.rolls-List (exprs_of s ps)) (many.list s ps)
  form_claim (ExprForm-F.Assert e) = made (ExprForm-F.Assert e.0) (exprs.Assert e.0) (exprs.rolls-Assert e.0) (leaves.assert s e)
  form_claim (ExprForm-F.Dbg e) = made (ExprForm-F.Dbg e.0) (exprs.Dbg e.0) (exprs.rolls-Dbg e.0) (leaves.dbg s e)
  form_claim ExprForm-F.Panic = made ExprForm-F.Panic exprs.Panic exprs.rolls-Panic (leaves.panic s)
  form_claim (ExprForm-F.Jet name ps) = made (ExprForm-F.Jet name (exprs_of s ps)) (exprs.Jet name (exprs_of s ps)) (exprs.rolls-Jet name (exprs_of s ps)) (many.jet s name ps)
  form_claim (ExprForm-F.Witness name) = made (ExprForm-F.Witness name) (exprs.Witness name) (exprs.rolls-Witness name) (leaves.witness s name)
  form_claim (ExprForm-F.Param name) = made (ExprForm-F.Param name) (exprs.Param name) (exprs.rolls-Param name) (leaves.param s name)
  form_claim (ExprForm-F.Into text e) = made (ExprForm-F.Into text e.0) (exprs.Into text e.0) (exprs.rolls-Into text e.0) (leaves.into s text e)
  form_claim (ExprForm-F.Unwrap e) = made (ExprForm-F.Unwrap e.0) (exprs.Unwrap e.0) (exprs.rolls-Unwrap e.0) (leaves.unwrap s e)
  form_claim (ExprForm-F.UnwrapLeft text e) = made (ExprForm-F.UnwrapLeft text e.0) (exprs.UnwrapLeft text e.0) (exprs.rolls-UnwrapLeft text e.0) (leaves.unwrap_left s text e)
  form_claim (ExprForm-F.UnwrapRight text e) = made (ExprForm-F.UnwrapRight text e.0) (exprs.UnwrapRight text e.0) (exprs.rolls-UnwrapRight text e.0) (leaves.unwrap_right s text e)
  form_claim (ExprForm-F.IsNone text e) = made (ExprForm-F.IsNone text e.0) (exprs.IsNone text e.0) (exprs.rolls-IsNone text e.0) (leaves.is_none s text e)
  form_claim (ExprForm-F.Fold name count one two) = made (ExprForm-F.Fold name count one.0 two.0) (exprs.Fold name count one.0 two.0) (exprs.rolls-Fold name count one.0 two.0) (many.fold s name count one two)
  form_claim (ExprForm-F.ArrayFold name count one two) = made (ExprForm-F.ArrayFold name count one.0 two.0) (exprs.ArrayFold name count one.0 two.0) (exprs.rolls-ArrayFold name count one.0 two.0) (many.array_fold s name count one two)
  form_claim (ExprForm-F.ForWhile name one two) = made (ExprForm-F.ForWhile name one.0 two.0) (exprs.ForWhile name one.0 two.0) (exprs.rolls-ForWhile name one.0 two.0) (many.for_while s name one two)
  form_claim (ExprForm-F.Left e) = made (ExprForm-F.Left e.0) (exprs.Left e.0) (exprs.rolls-Left e.0) (leaves.left s e)
  form_claim (ExprForm-F.Right e) = made (ExprForm-F.Right e.0) (exprs.Right e.0) (exprs.rolls-Right e.0) (leaves.right s e)
  form_claim (ExprForm-F.Some e) = made (ExprForm-F.Some e.0) (exprs.Some e.0) (exprs.rolls-Some e.0) (leaves.some s e)
  form_claim ExprForm-F.Nothing = made ExprForm-F.Nothing exprs.Nothing exprs.rolls-Nothing (leaves.nothing s)
  form_claim ExprForm-F.True = made ExprForm-F.True exprs.True exprs.rolls-True (leaves.truth s)
  form_claim ExprForm-F.False = made ExprForm-F.False exprs.False exprs.rolls-False (leaves.falsehood s)
  form_claim (ExprForm-F.Literal word) = made (ExprForm-F.Literal word) (exprs.Literal word) (exprs.rolls-Literal word) (leaves.literal s word)
  form_claim (ExprForm-F.Call name ps) = made (ExprForm-F.Call name (exprs_of s ps)) (exprs.Call name (exprs_of s ps)) (exprs.rolls-Call name (exprs_of s ps)) (many.call s name ps)
  form_claim (ExprForm-F.Name name) = made (ExprForm-F.Name name) (exprs.Name name) (exprs.rolls-Name name) (leaves.variable s name)

  statement_claim : (y : Statement-F ProvedForm (ProvedStatement s) (ProvedArm s) (Proved s)) → StatementClaim s (roll-Statement (map-Statement ProvedForm (ProvedStatement s) (ProvedArm s) (Proved s) ExprForm Statement Arm Expr form_of (statement_of s) arm_of (expr_of s) y))
  statement_claim (Statement-F.Let pattern text e stands) =
      let layer : Statement-F ExprForm Statement Arm Expr = Statement-F.Let pattern text e.0 stands in
      let walks = fold-roll-Statement FormWalk StatementWalk ArmWalk ExprWalk (form_step (context s)) (statement_step (context s)) (arm_step (context s)) (expr_step (context s)) layer in
      let names = fold-roll-Statement Names Names Names Names names_step statement_names_step (λ arm. arm.body) (λ e. e.form) layer in
      let rolls = statements.rolls-Let pattern text e.0 stands in
      subst (λ (w : StatementWalk). StatementAt s w (roll-Statement layer)) (sym walks) (subst (λ (st : Statement). StatementAt s (statement_step (context s) (Statement-F.Let pattern text (expr_walk (context s) e.0) stands)) st) (sym rolls) (let_fine s pattern text e stands (ap statement_names (sym rolls) ∙ names)))
  statement_claim (Statement-F.Plain e) =
      let layer : Statement-F ExprForm Statement Arm Expr = Statement-F.Plain e.0 in
      let walks = fold-roll-Statement FormWalk StatementWalk ArmWalk ExprWalk (form_step (context s)) (statement_step (context s)) (arm_step (context s)) (expr_step (context s)) layer in
      let names = fold-roll-Statement Names Names Names Names names_step statement_names_step (λ arm. arm.body) (λ e. e.form) layer in
      let rolls = statements.rolls-Plain e.0 in
      subst (λ (w : StatementWalk). StatementAt s w (roll-Statement layer)) (sym walks) (subst (λ (st : Statement). StatementAt s (statement_step (context s) (Statement-F.Plain (expr_walk (context s) e.0))) st) (sym rolls) (plain_fine s e (ap statement_names (sym rolls) ∙ names)))

  expr_claim : (e : Expr) → FormClaim e.form → Claim s e
  expr_claim e claim h at =
      let walks = fold_out-Expr FormWalk StatementWalk ArmWalk ExprWalk (form_step (context s)) (statement_step (context s)) (arm_step (context s)) (expr_step (context s)) e in
      let names : expr_names e ≡ form_names e.form = fold_out-Expr Names Names Names Names names_step statement_names_step (λ arm. arm.body) (λ e. e.form) e in
      subst (λ (w : ExprWalk). Fine (Bad s) (Meets s.program (h.before ++ expr_names e)) (w h.scope h.expected (rule_of h.alone) h.met)) (sym walks)
      (then_fine (Bad s) (Meets s.program (h.before ++ form_names e.form)) (Meets s.program (h.before ++ expr_names e)) (form_walk (context s) e.form e.span h.scope h.expected (rule_of h.alone) h.met) _ (claim e.span h at)
      (λ found is. is ⊙ ap (λ ns. h.before ++ ns) (sym names)))

  pub expr_fine : (e : Expr) → Claim s e
  expr_fine =
      ind-Expr FormClaim (StatementClaim s) ArmClaim (Claim s)
      (λ x y is. subst (λ z. FormClaim (roll-ExprForm z)) is (form_claim y))
      (λ x y is. subst (λ z. StatementClaim s (roll-Statement z)) is (statement_claim y))
      (λ x y is. subst (λ z. ArmClaim (roll-Arm z)) is y.body.1)
      (λ x y is. expr_claim (roll-Expr x) (subst (λ (e : Expr-F ExprForm Statement Arm Expr). FormClaim e.form) is y.form.1))
