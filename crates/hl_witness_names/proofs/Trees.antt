-- The names in a typed tree are those of its source in the text's order, and those in its term are the same in another order.
use Rattle.std.proofs.Common.{◌≡◌, Bool, true, false, cond, List, [], ◌∷◌, ◌++◌, map, Option, Some, None, option_map, IsPermutation, refl, sym, ap, ◌∙◌, subst, append-nil}
use Rattle.std.proofs.lemmas.List.Sorted.{IsPermutation-refl, IsPermutation-trans, IsPermutation-append_left, IsPermutation-append_right, IsPermutation-append_comm}
use Rattle.hl_data.specs.declared.typed.TypedArm.{TypedArm}
use Rattle.hl_data.specs.declared.typed.TypedExpr.{TypedExpr}
use Rattle.hl_data.specs.declared.typed.TypedForm.{TypedForm, roll-TypedForm}
use Rattle.hl_data.specs.declared.typed.TypedForm.TheOpen.{TypedForm-F}
use Rattle.hl_data.specs.declared.typed.TypedForm.TheVariants as typed
use Rattle.hl_data.specs.declared.typed.TypedStatement.{TypedStatement}
use Rattle.hl_data.specs.declared.value.Entry.{Entry}
use Rattle.hl_syntax.specs.declared.kinds.TypedName.{TypedName}
use Rattle.hl_syntax.specs.declared.tree.Arm.{Arm}
use Rattle.hl_syntax.specs.declared.tree.Expr.{Expr}
use Rattle.hl_syntax.specs.declared.tree.ExprForm.{ExprForm, roll-ExprForm}
use Rattle.hl_syntax.specs.declared.tree.ExprForm.TheOpen.{ExprForm-F}
use Rattle.hl_syntax.specs.declared.tree.ExprForm.TheVariants as exprs
use Rattle.hl_syntax.specs.declared.tree.Statement.{Statement}
use Rattle.hl_rules.specs.Witnesses.{Names, joined, if_any, form_names, statement_names, arm_names, expr_names}
use Rattle.hl_typing.specs.Erased as erased
use Rattle.hl_typing.specs.Erased.{Erased, Paired, FormOf, ExprsOf, StatementOf, StatementsOf, LastOf, ArmOf}
use Rattle.hl_typing.specs.Names.{in_text, in_term, goes_first, names_in_form, names_in_statement, names_in}
use Rattle.hl_witness_names.proofs.Layers.{Layer, TypedLayer, source_layer, source_form, source_expr, source_arm, source_let, source_plain, typed_layer, typed_form, typed_expr, typed_arms, typed_let, typed_plain}

-- the names in a term, those in the typed tree's text, and those of its source
pub record Same (term text source : Names) : Type 0 where
  pub is : text ≡ source
  pub permuted : IsPermutation term text

nothing : Same [] [] []
nothing = record { is = refl; permuted = IsPermutation-refl [] }

both_permuted : (a b c d : Names) → IsPermutation a b → IsPermutation c d → IsPermutation (a ++ c) (b ++ d)
both_permuted a b c d h k = IsPermutation-trans (a ++ c) (b ++ c) (b ++ d) (IsPermutation-append_left c a b h) (IsPermutation-append_right b c d k)

both : {a b c d e f : Names} → Same a b c → Same d e f → Same (a ++ d) (b ++ e) (c ++ f)
both {a} {b} {c} {d} {e} {f} h k =
    record { is = ap (λ ns. ns ++ e) h.is ∙ ap (λ ns. c ++ ns) k.is; permuted = both_permuted a b d e h.permuted k.permuted }

moved : {a b c d e f : Names} → a ≡ d → b ≡ e → c ≡ f → Same d e f → Same a b c
moved {a} {b} {c} {d} {e} {f} p q r h =
    subst (λ (ns : Names). Same ns b c) (sym p) (subst (λ (ns : Names). Same d ns c) (sym q) (subst (λ (ns : Names). Same d e ns) (sym r) h))

-- the arms of a match in either order
abbrev turned : Bool → Names → Names → Names
turned first one two = cond first (one ++ two) (two ++ one)

plus_nothing : {a : Names} (b c d e : Names) → Same a (b ++ c) (d ++ e) → Same a (b ++ (c ++ [])) (d ++ (e ++ []))
plus_nothing {a} b c d e h = moved refl (ap (λ ns. b ++ ns) (append-nil c)) (ap (λ ns. d ++ ns) (append-nil e)) h

arms_same : (first : Bool) (a b c d e f : Names) → Same a b c → Same d e f → Same (turned first a d) (b ++ e) (c ++ f)
arms_same true a b c d e f h k = both h k
arms_same false a b c d e f h k =
    let straight : Same (a ++ d) (b ++ e) (c ++ f) = both h k in
    record { is = straight.is; permuted = IsPermutation-trans (d ++ a) (a ++ d) (b ++ e) (IsPermutation-append_comm d a) straight.permuted }

abbrev FormSame : TypedForm → ExprForm → Type 0
FormSame form source = Same (names_in_form in_term form) (names_in_form in_text form) (form_names source)

abbrev pub ExprSame : TypedExpr → Expr → Type 0
ExprSame e source = Same (names_in in_term e) (names_in in_text e) (expr_names source)

abbrev Claim : Paired → Type 0
Claim (FormOf form source) = FormSame form source
Claim (ExprsOf es sources) = Same (joined (map (names_in in_term) es)) (joined (map (names_in in_text) es)) (joined (map expr_names sources))
Claim (StatementOf s source) = Same (names_in_statement in_term s) (names_in_statement in_text s) (statement_names source)
Claim (StatementsOf ss sources) =
    Same (joined (map (names_in_statement in_term) ss)) (joined (map (names_in_statement in_text) ss)) (joined (map statement_names sources))
Claim (LastOf last end) =
    Same (if_any (option_map (names_in in_term) last)) (if_any (option_map (names_in in_text) last)) (if_any (option_map expr_names end))
Claim (ArmOf one source) = Same (names_in in_term one.body) (names_in in_text one.body) (arm_names source)

made : (layer : TypedLayer) (form : TypedForm) → roll-TypedForm layer ≡ form → (from : Layer) (source : ExprForm) → roll-ExprForm from ≡ source →
    Same (typed_layer in_term layer) (typed_layer in_text layer) (source_layer from) → FormSame form source
made layer form is from source source_is h =
    moved (typed_form in_term layer form is) (typed_form in_text layer form is) (source_form from source source_is) h

pub expr_same : (e : TypedExpr) (source : Expr) → FormSame e.form source.form → ExprSame e source
expr_same e source h = moved (typed_expr in_term e) (typed_expr in_text e) (source_expr source) h

block_same : (ss : List TypedStatement) (last : Option TypedExpr) (sources : List Statement) (end : Option Expr) → Claim (StatementsOf ss sources) →
    Claim (LastOf last end) → FormSame (typed.Block ss last) (exprs.Block sources end)
block_same ss None sources None h k =
    made (TypedForm-F.Block ss None) _ (typed.rolls-Block ss None) (ExprForm-F.Block sources None) _ (exprs.rolls-Block sources None) (both h k)
block_same ss None sources (Some e) h k =
    made (TypedForm-F.Block ss None) _ (typed.rolls-Block ss None)
    (ExprForm-F.Block sources (Some e)) _ (exprs.rolls-Block sources (Some e)) (both h k)
block_same ss (Some e) sources None h k =
    made (TypedForm-F.Block ss (Some e)) _ (typed.rolls-Block ss (Some e))
    (ExprForm-F.Block sources None) _ (exprs.rolls-Block sources None) (both h k)
block_same ss (Some e) sources (Some source) h k =
    made (TypedForm-F.Block ss (Some e)) _ (typed.rolls-Block ss (Some e))
    (ExprForm-F.Block sources (Some source)) _ (exprs.rolls-Block sources (Some source)) (both h k)

match_same : (e : TypedExpr) (one two : TypedArm) (source : Expr) (first second : Arm) → ExprSame e source →
    Claim (ArmOf one first) → Claim (ArmOf two second) → FormSame (typed.Match e (one ∷ two ∷ [])) (exprs.Match source (first ∷ second ∷ []))
match_same e one two source first second h k l =
    let same = arms_same (goes_first one.side) _ _ _ _ _ _ k l in
    made (TypedForm-F.Match e (one ∷ two ∷ [])) _ (typed.rolls-Match e (one ∷ two ∷ [])) (ExprForm-F.Match source (first ∷ second ∷ [])) _
    (exprs.rolls-Match source (first ∷ second ∷ []))
    (moved (typed_arms in_term e one two) (typed_arms in_text e one two) refl (both h (plus_nothing _ _ _ _ same)))

pub same : (aliases : List TypedName) (entries : List Entry) (p : Paired) → Erased aliases entries p → Claim p
same aliases entries _ erased.no_more = nothing
same aliases entries _ (erased.one_more e es source sources h k) = both (expr_same e source (same aliases entries _ h)) (same aliases entries _ k)
same aliases entries _ (erased.block ss last sources end h k) = block_same ss last sources end (same aliases entries _ h) (same aliases entries _ k)
same aliases entries _ erased.no_last = nothing
same aliases entries _ (erased.last e source h) = expr_same e source (same aliases entries _ h)
same aliases entries _ erased.no_statement = nothing
same aliases entries _ (erased.one_statement s ss source sources h k) = both (same aliases entries _ h) (same aliases entries _ k)
same aliases entries _ (erased.binding p text k e source span written h) =
    moved (typed_let in_term p k e) (typed_let in_text p k e) (source_let p text source span) (expr_same e source (same aliases entries _ h))
same aliases entries _ (erased.plain e source h) =
    moved (typed_plain in_term e) (typed_plain in_text e) (source_plain source) (expr_same e source (same aliases entries _ h))
same aliases entries _ (erased.matched e one two source first second h k l) =
    match_same e one two source first second (expr_same e source (same aliases entries _ h)) (same aliases entries _ k) (same aliases entries _ l)
same aliases entries _ (erased.arm one source side h) =
    moved refl refl (source_arm source) (expr_same one.body source.body (same aliases entries _ h))
same aliases entries _ (erased.tuple es sources h) =
    made (TypedForm-F.Tuple es) _ (typed.rolls-Tuple es) (ExprForm-F.Tuple sources) _ (exprs.rolls-Tuple sources)
    (same aliases entries _ h)
same aliases entries _ (erased.array es sources h) =
    made (TypedForm-F.Array es) _ (typed.rolls-Array es) (ExprForm-F.Array sources) _ (exprs.rolls-Array sources)
    (same aliases entries _ h)
same aliases entries _ (erased.list es sources h) =
    made (TypedForm-F.List es) _ (typed.rolls-List es) (ExprForm-F.List sources) _ (exprs.rolls-List sources)
    (same aliases entries _ h)
same aliases entries _ (erased.assert e source h) =
    made (TypedForm-F.Assert e) _ (typed.rolls-Assert e) (ExprForm-F.Assert source) _ (exprs.rolls-Assert source)
    (expr_same e source (same aliases entries _ h))
same aliases entries _ (erased.dbg e source h) =
    made (TypedForm-F.Dbg e) _ (typed.rolls-Dbg e) (ExprForm-F.Dbg source) _ (exprs.rolls-Dbg source)
    (expr_same e source (same aliases entries _ h))
same aliases entries _ (erased.unwrap e source h) =
    made (TypedForm-F.Unwrap e) _ (typed.rolls-Unwrap e) (ExprForm-F.Unwrap source) _ (exprs.rolls-Unwrap source)
    (expr_same e source (same aliases entries _ h))
same aliases entries _ (erased.left e source h) =
    made (TypedForm-F.Left e) _ (typed.rolls-Left e) (ExprForm-F.Left source) _ (exprs.rolls-Left source)
    (expr_same e source (same aliases entries _ h))
same aliases entries _ (erased.right e source h) =
    made (TypedForm-F.Right e) _ (typed.rolls-Right e) (ExprForm-F.Right source) _ (exprs.rolls-Right source)
    (expr_same e source (same aliases entries _ h))
same aliases entries _ (erased.some e source h) =
    made (TypedForm-F.Some e) _ (typed.rolls-Some e) (ExprForm-F.Some source) _ (exprs.rolls-Some source)
    (expr_same e source (same aliases entries _ h))
same aliases entries _ (erased.into text k e source written h) =
    made (TypedForm-F.Into k e) _ (typed.rolls-Into k e) (ExprForm-F.Into text source) _ (exprs.rolls-Into text source)
    (expr_same e source (same aliases entries _ h))
same aliases entries _ (erased.unwrap_left text k e source written h) =
    made (TypedForm-F.UnwrapLeft k e) _ (typed.rolls-UnwrapLeft k e) (ExprForm-F.UnwrapLeft text source) _ (exprs.rolls-UnwrapLeft text source)
    (expr_same e source (same aliases entries _ h))
same aliases entries _ (erased.unwrap_right text k e source written h) =
    made (TypedForm-F.UnwrapRight k e) _ (typed.rolls-UnwrapRight k e) (ExprForm-F.UnwrapRight text source) _ (exprs.rolls-UnwrapRight text source)
    (expr_same e source (same aliases entries _ h))
same aliases entries _ (erased.is_none text k e source written h) =
    made (TypedForm-F.IsNone k e) _ (typed.rolls-IsNone k e) (ExprForm-F.IsNone text source) _ (exprs.rolls-IsNone text source)
    (expr_same e source (same aliases entries _ h))
same aliases entries _ erased.panic = made TypedForm-F.Panic _ typed.rolls-Panic ExprForm-F.Panic _ exprs.rolls-Panic nothing
same aliases entries _ erased.nothing = made TypedForm-F.Nothing _ typed.rolls-Nothing ExprForm-F.Nothing _ exprs.rolls-Nothing nothing
same aliases entries _ erased.truth = made TypedForm-F.True _ typed.rolls-True ExprForm-F.True _ exprs.rolls-True nothing
same aliases entries _ erased.falsehood = made TypedForm-F.False _ typed.rolls-False ExprForm-F.False _ exprs.rolls-False nothing
same aliases entries _ (erased.jet word es sources h) =
    made (TypedForm-F.Jet word.text es) _ (typed.rolls-Jet word.text es) (ExprForm-F.Jet word sources) _ (exprs.rolls-Jet word sources)
    (same aliases entries _ h)
same aliases entries _ (erased.call word es sources h) =
    made (TypedForm-F.Call word.text es) _ (typed.rolls-Call word.text es) (ExprForm-F.Call word sources) _ (exprs.rolls-Call word sources)
    (same aliases entries _ h)
same aliases entries _ (erased.witness word) =
    made (TypedForm-F.Witness word.text) _ (typed.rolls-Witness word.text) (ExprForm-F.Witness word) _ (exprs.rolls-Witness word)
    (record { is = refl; permuted = IsPermutation-refl (word.text ∷ []) })
same aliases entries _ (erased.value word entry found) =
    made (TypedForm-F.Value entry.value) _ (typed.rolls-Value entry.value) (ExprForm-F.Param word) _ (exprs.rolls-Param word)
    (nothing)
same aliases entries _ (erased.literal word) =
    made (TypedForm-F.Literal word) _ (typed.rolls-Literal word) (ExprForm-F.Literal word) _ (exprs.rolls-Literal word)
    (nothing)
same aliases entries _ (erased.name word) =
    made (TypedForm-F.Name word) _ (typed.rolls-Name word) (ExprForm-F.Name word) _ (exprs.rolls-Name word)
    (nothing)
same aliases entries _ (erased.fold word count items start source begin h k) =
    made (TypedForm-F.Fold word.text count.text items start) _ (typed.rolls-Fold word.text count.text items start)
    (ExprForm-F.Fold word count source begin) _ (exprs.rolls-Fold word count source begin)
    (both (expr_same items source (same aliases entries _ h)) (expr_same start begin (same aliases entries _ k)))
same aliases entries _ (erased.array_fold word count items start source begin h k) =
    made (TypedForm-F.ArrayFold word.text count.text items start) _ (typed.rolls-ArrayFold word.text count.text items start)
    (ExprForm-F.ArrayFold word count source begin) _ (exprs.rolls-ArrayFold word count source begin)
    (both (expr_same items source (same aliases entries _ h)) (expr_same start begin (same aliases entries _ k)))
same aliases entries _ (erased.for_while word start context begin given h k) =
    made (TypedForm-F.ForWhile word.text start context) _ (typed.rolls-ForWhile word.text start context)
    (ExprForm-F.ForWhile word begin given) _ (exprs.rolls-ForWhile word begin given)
    (both (expr_same start begin (same aliases entries _ h)) (expr_same context given (same aliases entries _ k)))
