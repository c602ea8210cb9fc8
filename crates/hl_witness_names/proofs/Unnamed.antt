-- Where no witness may be named, a typed tree names none.
use Rattle.std.proofs.Common.{◌≡◌, List, [], ◌∷◌, ◌++◌, map, Option, Some, None, option_map, refl, ap, ◌∙◌, subst}
use Rattle.hl_data.specs.declared.typed.TypedArm.{TypedArm}
use Rattle.hl_data.specs.declared.typed.TypedExpr.{TypedExpr}
use Rattle.hl_data.specs.declared.typed.TypedForm.{TypedForm, roll-TypedForm}
use Rattle.hl_data.specs.declared.typed.TypedForm.TheOpen.{TypedForm-F}
use Rattle.hl_data.specs.declared.typed.TypedForm.TheVariants as typed
use Rattle.hl_data.specs.declared.typed.TypedStatement.{TypedStatement}
use Rattle.hl_syntax.specs.declared.kinds.TypedName.{TypedName}
use Rattle.hl_rules.specs.Places.{variable_type}
use Rattle.hl_rules.specs.Witnesses.{Names, joined, if_any}
use Rattle.hl_typing.specs.Typing as rule
use Rattle.hl_typing.specs.Typing.{Around, Typed, Judged, FormAt, ExprAt, ExprsAt, BlockAt}
use Rattle.hl_typing.specs.Names.{in_text, names_in_form, names_in_statement, names_in_arm, names_in}
use Rattle.hl_witness_names.proofs.Layers.{TypedLayer, typed_layer, typed_form, typed_expr, typed_arm, typed_let, typed_plain}

abbrev pub Claim : Judged → Type 0
Claim (FormAt scope k form) = names_in_form in_text form ≡ []
Claim (ExprAt scope k e) = names_in in_text e ≡ []
Claim (ExprsAt scope ks es) = joined (map (names_in in_text) es) ≡ []
Claim (BlockAt scope k ss last) = joined (map (names_in_statement in_text) ss) ++ if_any (option_map (names_in in_text) last) ≡ []

both : {a b : Names} → a ≡ [] → b ≡ [] → a ++ b ≡ []
both {a} {b} h k = ap (λ ns. ns ++ b) h ∙ k

made : (layer : TypedLayer) (form : TypedForm) → roll-TypedForm layer ≡ form → typed_layer in_text layer ≡ [] → names_in_form in_text form ≡ []
made layer form is h = typed_form in_text layer form is ∙ h

block_none : (ss : List TypedStatement) (last : Option TypedExpr) →
    joined (map (names_in_statement in_text) ss) ++ if_any (option_map (names_in in_text) last) ≡ [] →
    names_in_form in_text (typed.Block ss last) ≡ []
block_none ss None h = made (TypedForm-F.Block ss None) _ (typed.rolls-Block ss None) h
block_none ss (Some e) h = made (TypedForm-F.Block ss (Some e)) _ (typed.rolls-Block ss (Some e)) h

first_none : (first rest last : Names) → first ≡ [] → rest ++ last ≡ [] → (first ++ rest) ++ last ≡ []
first_none first rest last h k = ap (λ ns. (ns ++ rest) ++ last) h ∙ k

arm_none : (arm : TypedArm) → names_in in_text arm.body ≡ [] → (names_in_arm in_text arm).names ≡ []
arm_none arm h = ap (λ a. a.names) (typed_arm in_text arm) ∙ h

pub unnamed : (around : Around) → around.witnesses ≡ [] → (j : Judged) → Typed around j → Claim j
unnamed around none _ (rule.expr scope k e is sound h) = typed_expr in_text e ∙ unnamed around none _ h
unnamed around none _ (rule.no_more scope) = refl
unnamed around none _ (rule.one_more scope k ks e es h l) = both (unnamed around none _ h) (unnamed around none _ l)
unnamed around none _ (rule.name scope k word is) = made (TypedForm-F.Name word) _ (typed.rolls-Name word) refl
unnamed around none _ (rule.witness scope k word is) =
    let nowhere : variable_type [] word ≡ Some k = subst (λ (ws : List TypedName). variable_type ws word ≡ Some k) none is in absurd (cc)
unnamed around none _ (rule.value scope k v is) = made (TypedForm-F.Value v) _ (typed.rolls-Value v) refl
unnamed around none _ (rule.literal scope width word less) = made (TypedForm-F.Literal word) _ (typed.rolls-Literal word) refl
unnamed around none _ (rule.truth scope) = made TypedForm-F.True _ typed.rolls-True refl
unnamed around none _ (rule.falsehood scope) = made TypedForm-F.False _ typed.rolls-False refl
unnamed around none _ (rule.tuple scope ks es h) = made (TypedForm-F.Tuple es) _ (typed.rolls-Tuple es) (unnamed around none _ h)
unnamed around none _ (rule.array scope item count es h) = made (TypedForm-F.Array es) _ (typed.rolls-Array es) (unnamed around none _ h)
unnamed around none _ (rule.list scope item bound es less h) = made (TypedForm-F.List es) _ (typed.rolls-List es) (unnamed around none _ h)
unnamed around none _ (rule.nothing scope item) = made TypedForm-F.Nothing _ typed.rolls-Nothing refl
unnamed around none _ (rule.some scope item e h) = made (TypedForm-F.Some e) _ (typed.rolls-Some e) (unnamed around none _ h)
unnamed around none _ (rule.left scope k l e h) = made (TypedForm-F.Left e) _ (typed.rolls-Left e) (unnamed around none _ h)
unnamed around none _ (rule.right scope k l e h) = made (TypedForm-F.Right e) _ (typed.rolls-Right e) (unnamed around none _ h)
unnamed around none _ (rule.panic scope k) = made TypedForm-F.Panic _ typed.rolls-Panic refl
unnamed around none _ (rule.assert scope e h) = made (TypedForm-F.Assert e) _ (typed.rolls-Assert e) (unnamed around none _ h)
unnamed around none _ (rule.dbg scope k e h) = made (TypedForm-F.Dbg e) _ (typed.rolls-Dbg e) (unnamed around none _ h)
unnamed around none _ (rule.unwrap scope k e h) = made (TypedForm-F.Unwrap e) _ (typed.rolls-Unwrap e) (unnamed around none _ h)
unnamed around none _ (rule.unwrap_left scope k other e h) =
    made (TypedForm-F.UnwrapLeft other e) _ (typed.rolls-UnwrapLeft other e) (unnamed around none _ h)
unnamed around none _ (rule.unwrap_right scope k other e h) =
    made (TypedForm-F.UnwrapRight other e) _ (typed.rolls-UnwrapRight other e) (unnamed around none _ h)
unnamed around none _ (rule.is_none scope item e h) = made (TypedForm-F.IsNone item e) _ (typed.rolls-IsNone item e) (unnamed around none _ h)
unnamed around none _ (rule.matched scope taken k e one two first second sides h l m) =
    made (TypedForm-F.Match e (one ∷ two ∷ [])) _ (typed.rolls-Match e (one ∷ two ∷ []))
    (both (unnamed around none _ h) (both (arm_none one (unnamed around none _ l)) (both (arm_none two (unnamed around none _ m)) refl)))
unnamed around none _ (rule.into scope source k e is h) = made (TypedForm-F.Into source e) _ (typed.rolls-Into source e) (unnamed around none _ h)
unnamed around none _ (rule.jet scope word row es is h) = made (TypedForm-F.Jet word es) _ (typed.rolls-Jet word es) (unnamed around none _ h)
unnamed around none _ (rule.call scope word f es is h) = made (TypedForm-F.Call word es) _ (typed.rolls-Call word es) (unnamed around none _ h)
unnamed around none _ (rule.fold scope word count f item items start called shape bound h l) =
    made (TypedForm-F.Fold word count items start) _ (typed.rolls-Fold word count items start)
    (both (unnamed around none _ h) (unnamed around none _ l))
unnamed around none _ (rule.array_fold scope word count f item items start called shape h l) =
    made (TypedForm-F.ArrayFold word count items start) _ (typed.rolls-ArrayFold word count items start)
    (both (unnamed around none _ h) (unnamed around none _ l))
unnamed around none _ (rule.for_while scope word f total given end width start context called shape wide result h l) =
    made (TypedForm-F.ForWhile word start context) _ (typed.rolls-ForWhile word start context)
    (both (unnamed around none _ h) (unnamed around none _ l))
unnamed around none _ (rule.block scope k ss last h) = block_none ss last (unnamed around none _ h)
unnamed around none _ (rule.no_last scope) = refl
unnamed around none _ (rule.last scope k e h) = unnamed around none _ h
unnamed around none _ (rule.binding scope k l p names e ss last bound h m) =
    first_none _ _ _ (typed_let in_text p l e ∙ unnamed around none _ h) (unnamed around none _ m)
unnamed around none _ (rule.plain scope k e ss last h l) =
    first_none _ _ _ (typed_plain in_text e ∙ unnamed around none _ h) (unnamed around none _ l)
