-- Expressions that are no block and no match: what their walk answers is broken there.
use Rattle.std.proofs.Common.{◌≡◌, ◌≢◌, ◌^◌, ℕ, Bool, true, false, not, nat_lt, List, [], ◌∷◌, ◌++◌, Result, refl, sym, append-nil, arith, IsTrue, ltb-false}
use Rattle.hl_syntax.specs.declared.kinds.HlType.{HlType}
use Rattle.hl_syntax.specs.declared.kinds.HlType.TheVariants as kind
use Rattle.hl_syntax.specs.declared.kinds.TypedName.{TypedName}
use Rattle.hl_syntax.specs.declared.rules.Rule.TheVariants.{K4, K6, K7, K12, K16, K17, K18, K19}
use Rattle.hl_syntax.specs.declared.token.Mark.{Mark}
use Rattle.hl_syntax.specs.declared.token.Span.{Span}
use Rattle.hl_syntax.specs.declared.tree.ExprForm.{ExprForm}
use Rattle.hl_syntax.specs.declared.tree.ExprForm.TheOpen.{ExprForm-F}
use Rattle.hl_syntax.specs.declared.tree.ExprForm.TheVariants as exprs
use Rattle.hl_syntax.specs.declared.tree.TypeText.{TypeText}
use Rattle.hl_data.specs.declared.typed.TypedExpr.{TypedExpr}
use Rattle.hl_data.specs.declared.typed.TypedForm.{TypedForm}
use Rattle.simplicity.specs.Types.{Kind, One, Sum, Product}
use Rattle.simplicityhl.specs.Kinds.{form}
use Rattle.simplicityhl.specs.Written.{Broken, breaks_rule, walk, then_walk}
use Rattle.hl_meaning.specs.Literals.{literal_value}
use Rattle.hl_rules.specs.Breaks as breaks
use Rattle.hl_rules.specs.Breaks.{Calls, Counts, IsShapeless, Misfits}
use Rattle.hl_rules.specs.Exprs.{ExprWalk, FormWalk, StatementWalk, ArmWalk, form_step, expr_walk, may_stand}
use Rattle.hl_rules.specs.Occurs.{Place, Occurs, HasParts, types_of, part}
use Rattle.hl_rules.specs.Occurs as occurs
use Rattle.hl_rules.specs.Written as written
use Rattle.hl_rules.specs.Places.{variable_type, entry_named}
use Rattle.hl_rules.specs.Same.{same_type, same_kind, unit_type, width_of, option_of, either_of}
use Rattle.hl_rules.specs.Witnesses.{Names, expr_names}
use Rattle.hl_rules.proofs.Fine.{Fine, then_fine, body_needs, body_wants, body_step}
use Rattle.hl_rules.proofs.Again.{broken_again}
use Rattle.hl_rules.proofs.Here.{Setting, Here, Met, one_met, ◌⊙◌, Meets, At, Bad, Proved, context, place, misfit, one_part, rule_of}
use Rattle.hl_rules.proofs.Names.{named_more}
use Rattle.hl_rules.proofs.Types.{type_fine, Any}

same_refl : (k : Kind) → same_kind k k ≡ true
same_refl One = refl
same_refl (Sum a b) = rw (same_refl a, same_refl b) refl
same_refl (Product a b) = rw (same_refl a, same_refl b) refl

differ : (a b : Kind) → same_kind a b ≡ false → a ≢ b
differ a b e is = let t = rw (is, same_refl b) at e in cc

pub not_false : (b : Bool) → not b ≡ false → b ≡ true
not_false true e = refl
not_false false e = cc

pub false_not : (b : Bool) → b ≡ false → IsTrue (not b)
false_not b e = rw e refl

module _ (s : Setting) where
  abbrev Form : Type 0
  Form = ExprForm-F FormWalk StatementWalk ArmWalk ExprWalk

  -- the walk of a form of these parts ends well, and meets witnesses of these names
  abbrev Holds : Form → Names → ExprForm → Type 0
  Holds layer names form = At s (form_step (context s) layer) names form

  abbrev Ends : Names → TypedForm × List TypedName → Type 0
  Ends names = Meets s.program names

  pub literal : (word : List ℕ) → Holds (ExprForm-F.Literal word) [] (exprs.Literal word)
  literal word span h at =
      body_wants (Bad s) (Ends (h.before ++ [])) (width_of h.expected) (rule_of h.alone) span h.met _ (λ e. misfit s span h (exprs.Literal word) at (breaks.no_number word e))
      (λ width found. body_needs (Bad s) (Ends (h.before ++ [])) (nat_lt (literal_value word) (2 ^ width)) K7 span h.met _ (λ e. breaks.k7 (place s h) word span width at found (let more = ltb-false _ _ e in omega arith))
      (λ _. h.named ⊙ sym (append-nil h.before)))

  pub panic : Holds ExprForm-F.Panic [] exprs.Panic
  panic span h at = h.named ⊙ sym (append-nil h.before)

  -- a form that is of a type of itself
  pub typed : (form : ExprForm) (span : Span) (h : Here s.program) (known : HlType) → Occurs s.program (place s h) form span → breaks.HasType (place s h) form known → same_type known h.expected ≡ false → Bad s (breaks_rule (rule_of h.alone) span)
  typed form span h known at has e = misfit s span h form at (breaks.other_type form known has (false_not (same_type known h.expected) e))

  pub truth : Holds ExprForm-F.True [] exprs.True
  truth span h at = body_needs (Bad s) (Ends (h.before ++ [])) (same_type kind.Bool h.expected) (rule_of h.alone) span h.met _ (typed exprs.True span h kind.Bool at breaks.truth) (λ _. h.named ⊙ sym (append-nil h.before))

  pub falsehood : Holds ExprForm-F.False [] exprs.False
  falsehood span h at = body_needs (Bad s) (Ends (h.before ++ [])) (same_type kind.Bool h.expected) (rule_of h.alone) span h.met _ (typed exprs.False span h kind.Bool at breaks.falsehood) (λ _. h.named ⊙ sym (append-nil h.before))

  pub nothing : Holds ExprForm-F.Nothing [] exprs.Nothing
  nothing span h at = body_wants (Bad s) (Ends (h.before ++ [])) (option_of h.expected) (rule_of h.alone) span h.met _ (λ e. misfit s span h exprs.Nothing at (breaks.no_option_none e)) (λ _ _. h.named ⊙ sym (append-nil h.before))

  pub variable : (name : List ℕ) → Holds (ExprForm-F.Name name) [] (exprs.Name name)
  variable name span h at =
      body_wants (Bad s) (Ends (h.before ++ [])) (variable_type h.scope name) K4 span h.met _ (breaks.k4 (place s h) name span at)
      (λ known found. body_needs (Bad s) (Ends (h.before ++ [])) (same_type known h.expected) (rule_of h.alone) span h.met _ (typed (exprs.Name name) span h known at (breaks.variable name known found)) (λ _. h.named ⊙ sym (append-nil h.before)))

  pub param : (name : Mark) → Holds (ExprForm-F.Param name) [] (exprs.Param name)
  param name span h at =
      body_wants (Bad s) (Ends (h.before ++ [])) (entry_named s.entries name.text) K18 name.span h.met _ (breaks.k18 (place s h) name span at)
      (λ entry found. body_needs (Bad s) (Ends (h.before ++ [])) (same_type entry.kind h.expected) K19 name.span h.met _ (λ e. breaks.k19 (place s h) name span entry at found (false_not (same_type entry.kind h.expected) e)) (λ _. h.named ⊙ sym (append-nil h.before)))

  pub witness : (name : Mark) → Holds (ExprForm-F.Witness name) (name.text ∷ []) (exprs.Witness name)
  witness name span h at =
      body_needs (Bad s) (Ends (h.before ++ name.text ∷ [])) s.in_main K16 name.span h.met _ (breaks.k16 (place s h) name span at)
      (λ _. body_needs (Bad s) (Ends (h.before ++ name.text ∷ [])) (may_stand s.edition h.met name.text h.expected) K17 name.span h.met _
      (λ e. broken_again s name span h at e)
      (λ _. record {
        named = named_more h.met (record { name = name.text; kind = h.expected }) h.before h.named.named;
        stand = one_met h.met (place s h) name span h.named.stand at (sym h.named.named);
      }))

  -- the part of a form that has one
  only : (form : ExprForm) (span : Span) (h : Here s.program) → Occurs s.program (place s h) form span → (e : Proved s) (kind : HlType) → HasParts (place s h) form (e.0 ∷ []) (kind ∷ []) → (next : TypedExpr → List TypedName → Result (TypedForm × List TypedName) Broken) →
      ((found : TypedExpr) (met : List TypedName) → Met s.program (h.before ++ expr_names e.0) met → Fine (Bad s) (Ends (h.before ++ expr_names e.0)) (next found met)) →
      Fine (Bad s) (Ends (h.before ++ expr_names e.0)) (then_walk (expr_walk (context s) e.0 h.scope kind K6 h.met) (λ found. next found.0 found.1))
  only form span h at e kind has next done =
      then_fine (Bad s) (Meets s.program (h.before ++ expr_names e.0)) (Ends (h.before ++ expr_names e.0)) (expr_walk (context s) e.0 h.scope kind K6 h.met) (λ found. next found.0 found.1) (one_part s span h form at e kind has) (λ found is. done found.0 found.1 is)

  pub assert : (e : Proved s) → Holds (ExprForm-F.Assert (expr_walk (context s) e.0)) (expr_names e.0) (exprs.Assert e.0)
  assert e span h at =
      body_needs (Bad s) (Ends (h.before ++ expr_names e.0)) (same_type unit_type h.expected) (rule_of h.alone) span h.met _ (typed (exprs.Assert e.0) span h unit_type at (breaks.asserted e.0))
      (λ _. only (exprs.Assert e.0) span h at e kind.Bool (occurs.assert e.0) _ (λ _ _ is. is))

  pub dbg : (e : Proved s) → Holds (ExprForm-F.Dbg (expr_walk (context s) e.0)) (expr_names e.0) (exprs.Dbg e.0)
  dbg e span h at = only (exprs.Dbg e.0) span h at e h.expected (occurs.dbg e.0) _ (λ _ _ is. is)

  pub unwrap : (e : Proved s) → Holds (ExprForm-F.Unwrap (expr_walk (context s) e.0)) (expr_names e.0) (exprs.Unwrap e.0)
  unwrap e span h at = only (exprs.Unwrap e.0) span h at e (kind.Option h.expected) (occurs.unwrap e.0) _ (λ _ _ is. is)

  pub left : (e : Proved s) → Holds (ExprForm-F.Left (expr_walk (context s) e.0)) (expr_names e.0) (exprs.Left e.0)
  left e span h at =
      body_wants (Bad s) (Ends (h.before ++ expr_names e.0)) (either_of h.expected) (rule_of h.alone) span h.met _ (λ none. misfit s span h (exprs.Left e.0) at (breaks.no_either_left e.0 none))
      (λ sides found. only (exprs.Left e.0) span h at e sides.0 (occurs.left e.0 sides.0 sides.1 found) _ (λ _ _ is. is))

  pub right : (e : Proved s) → Holds (ExprForm-F.Right (expr_walk (context s) e.0)) (expr_names e.0) (exprs.Right e.0)
  right e span h at =
      body_wants (Bad s) (Ends (h.before ++ expr_names e.0)) (either_of h.expected) (rule_of h.alone) span h.met _ (λ none. misfit s span h (exprs.Right e.0) at (breaks.no_either_right e.0 none))
      (λ sides found. only (exprs.Right e.0) span h at e sides.1 (occurs.right e.0 sides.0 sides.1 found) _ (λ _ _ is. is))

  pub some : (e : Proved s) → Holds (ExprForm-F.Some (expr_walk (context s) e.0)) (expr_names e.0) (exprs.Some e.0)
  some e span h at =
      body_wants (Bad s) (Ends (h.before ++ expr_names e.0)) (option_of h.expected) (rule_of h.alone) span h.met _ (λ none. misfit s span h (exprs.Some e.0) at (breaks.no_option_some e.0 none))
      (λ item found. only (exprs.Some e.0) span h at e item (occurs.some e.0 item found) _ (λ _ _ is. is))

  -- a type that is written in a form
  text_of : (text : TypeText) → written.IsWritten s.program s.aliases text.form text.span → Fine (Bad s) Any (walk s.aliases text)
  text_of text w = type_fine s.program s.asked s.entries s.edition s.end s.aliases text w

  pub into : (text : TypeText) (e : Proved s) → Holds (ExprForm-F.Into text (expr_walk (context s) e.0)) (expr_names e.0) (exprs.Into text e.0)
  into text e span h at =
      body_step (Bad s) Any (Ends (h.before ++ expr_names e.0)) (walk s.aliases text) h.met _ (text_of text (written.of_into (place s h) text e.0 span refl at))
      (λ source found _. body_needs (Bad s) (Ends (h.before ++ expr_names e.0)) (same_kind (form source) (form h.expected)) K12 span h.met _ (λ other. breaks.k12 (place s h) text e.0 span source at found (differ (form source) (form h.expected) other))
      (λ _. only (exprs.Into text e.0) span h at e source (occurs.into text e.0 source found) _ (λ _ _ is. is)))

  pub unwrap_left : (text : TypeText) (e : Proved s) → Holds (ExprForm-F.UnwrapLeft text (expr_walk (context s) e.0)) (expr_names e.0) (exprs.UnwrapLeft text e.0)
  unwrap_left text e span h at =
      body_step (Bad s) Any (Ends (h.before ++ expr_names e.0)) (walk s.aliases text) h.met _ (text_of text (written.of_unwrap_left (place s h) text e.0 span refl at))
      (λ other found _. only (exprs.UnwrapLeft text e.0) span h at e (kind.Either h.expected other) (occurs.unwrap_left text e.0 other found) _ (λ _ _ is. is))

  pub unwrap_right : (text : TypeText) (e : Proved s) → Holds (ExprForm-F.UnwrapRight text (expr_walk (context s) e.0)) (expr_names e.0) (exprs.UnwrapRight text e.0)
  unwrap_right text e span h at =
      body_step (Bad s) Any (Ends (h.before ++ expr_names e.0)) (walk s.aliases text) h.met _ (text_of text (written.of_unwrap_right (place s h) text e.0 span refl at))
      (λ other found _. only (exprs.UnwrapRight text e.0) span h at e (kind.Either other h.expected) (occurs.unwrap_right text e.0 other found) _ (λ _ _ is. is))

  pub is_none : (text : TypeText) (e : Proved s) → Holds (ExprForm-F.IsNone text (expr_walk (context s) e.0)) (expr_names e.0) (exprs.IsNone text e.0)
  is_none text e span h at =
      body_step (Bad s) Any (Ends (h.before ++ expr_names e.0)) (walk s.aliases text) h.met _ (text_of text (written.of_is_none (place s h) text e.0 span refl at))
      (λ item found _. body_needs (Bad s) (Ends (h.before ++ expr_names e.0)) (same_type kind.Bool h.expected) (rule_of h.alone) span h.met _ (typed (exprs.IsNone text e.0) span h kind.Bool at (breaks.tested text e.0 item found))
      (λ _. only (exprs.IsNone text e.0) span h at e (kind.Option item) (occurs.is_none text e.0 item found) _ (λ _ _ is. is)))
