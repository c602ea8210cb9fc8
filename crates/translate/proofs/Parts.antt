-- The parts of a typed form, by the form.
use Rattle.std.proofs.Common.{◌≡◌, false, true, ◌||◌, Bool, List, [], ◌∷◌, ◌++◌, map, Option, Some, None, option_map, refl, sym, ap, ◌∙◌, subst}
use Rattle.hl_constructs.specs.Held.{any_of, last_of, form_step, statement_step, arm_step, expr_step, in_expr, in_form, in_statement, in_arm}
use Rattle.hl_data.specs.declared.typed.TypedArm.{TypedArm}
use Rattle.hl_data.specs.declared.typed.TypedExpr.{TypedExpr}
use Rattle.hl_data.specs.declared.typed.TypedForm.{TypedForm, out-TypedForm}
use Rattle.hl_data.specs.declared.typed.TypedForm.TheFolds.{fold_out-TypedExpr, fold_out-TypedForm, map-TypedForm}
use Rattle.hl_data.specs.declared.typed.TypedForm.TheOpen.{TypedForm-F}
use Rattle.hl_data.specs.declared.typed.TypedForm.TheVariants as form
use Rattle.hl_data.specs.declared.typed.TypedStatement.{TypedStatement}
use Rattle.hl_rules.specs.Places.{Scope}
use Rattle.hl_syntax.specs.declared.kinds.HlType.{HlType}
use Rattle.hl_syntax.specs.declared.kinds.HlType.TheVariants as kind
use Rattle.hl_typing.specs.Typing.{Around, Judged, FormAt, ExprAt, ExprsAt, BlockAt, Typed}
use Rattle.hl_typing.specs.Typing as rule
use Rattle.simplicityhl.specs.Kinds.{IsSound}
use Rattle.translate.specs.Parts.{One, Many, Lines, Arms, PartsOf}

abbrev Layer : Type 0
Layer = TypedForm-F TypedForm TypedStatement TypedArm TypedExpr

abbrev layer_holds : Layer → Bool
layer_holds x = form_step (map-TypedForm TypedForm TypedStatement TypedArm TypedExpr Bool Bool Bool Bool in_form in_statement in_arm in_expr x)

pub expr_by_form : (e : TypedExpr) → in_expr e ≡ layer_holds (out-TypedForm e.form)
expr_by_form e = fold_out-TypedExpr Bool Bool Bool Bool form_step statement_step arm_step expr_step e ∙ fold_out-TypedForm Bool Bool Bool Bool form_step statement_step arm_step expr_step e.form

-- neither of two
pub neither : (a b : Bool) → a || b ≡ false → (a ≡ false) × (b ≡ false)
neither false b h = (refl, h)
neither true b h = absurd (cc)

module _ (around : Around) where
  abbrev At : Scope → HlType → Layer → Type 0
  At scope k x = layer_holds x ≡ false → PartsOf around scope k x

  abbrev Claim : Judged → Type 0
  Claim (FormAt scope k f) = At scope k (out-TypedForm f)
  Claim _ = Unit {0}

  one : (scope : Scope) (k : HlType) (e : TypedExpr) → Typed around (ExprAt scope k e) → in_expr e ≡ false → One around scope e
  one scope k e h b = record { kind = k; typed = h; built = b }

  many : (scope : Scope) (ks : List HlType) (es : List TypedExpr) → Typed around (ExprsAt scope ks es) → any_of (map in_expr es) ≡ false → Many around scope es
  many scope ks es h b = record { kinds = ks; typed = h; built = b }

  lines : (scope : Scope) (k : HlType) (ss : List TypedStatement) (last : Option TypedExpr) → Typed around (BlockAt scope k ss last) → layer_holds (TypedForm-F.Block ss last) ≡ false → Lines around scope k ss last
  lines scope k ss None h b = let n = neither (any_of (map in_statement ss)) false b in record { typed = h; built = n.0; last_built = refl }
  lines scope k ss (Some e) h b = let n = neither (any_of (map in_statement ss)) (in_expr e) b in record { typed = h; built = n.0; last_built = n.1 }

  inverted : (j : Judged) → Typed around j → Claim j
  inverted _ (rule.expr scope k e same sound h) = tt
  inverted _ (rule.no_more scope) = tt
  inverted _ (rule.one_more scope k ks e es h i) = tt
  inverted _ (rule.name scope k word is) = subst (At scope k) (sym (form.outs-Name word)) (λ b. tt)
  inverted _ (rule.witness scope k word is) = subst (At scope k) (sym (form.outs-Witness word)) (λ b. tt)
  inverted _ (rule.value scope k v h) = subst (At scope k) (sym (form.outs-Value v)) (λ b. h)
  inverted _ (rule.literal scope width word less) = subst (At scope (kind.UInt width)) (sym (form.outs-Literal word)) (λ b. (width, refl, less))
  inverted _ (rule.truth scope) = subst (At scope kind.Bool) (sym form.outs-True) (λ b. tt)
  inverted _ (rule.falsehood scope) = subst (At scope kind.Bool) (sym form.outs-False) (λ b. tt)
  inverted _ (rule.tuple scope ks es h) = subst (At scope (kind.Tuple ks)) (sym (form.outs-Tuple es)) (many scope ks es h)
  inverted _ (rule.array scope item count es h) = subst (At scope (kind.Array item count)) (sym (form.outs-Array es)) (many scope _ es h)
  inverted _ (rule.list scope item bound es few h) = subst (At scope (kind.List item bound)) (sym (form.outs-List es)) (λ b. (many scope _ es h b, (item, bound, refl)))
  inverted _ (rule.nothing scope item) = subst (At scope (kind.Option item)) (sym form.outs-Nothing) (λ b. tt)
  inverted _ (rule.some scope item e h) = subst (At scope (kind.Option item)) (sym (form.outs-Some e)) (one scope item e h)
  inverted _ (rule.left scope k l e h) = subst (At scope (kind.Either k l)) (sym (form.outs-Left e)) (one scope k e h)
  inverted _ (rule.right scope k l e h) = subst (At scope (kind.Either k l)) (sym (form.outs-Right e)) (one scope l e h)
  inverted _ (rule.panic scope k) = subst (At scope k) (sym form.outs-Panic) (λ b. tt)
  inverted _ (rule.assert scope e h) = subst (At scope _) (sym (form.outs-Assert e)) (one scope kind.Bool e h)
  inverted _ (rule.dbg scope k e h) = subst (At scope k) (sym (form.outs-Dbg e)) (one scope k e h)
  inverted _ (rule.unwrap scope k e h) = subst (At scope k) (sym (form.outs-Unwrap e)) (one scope _ e h)
  inverted _ (rule.unwrap_left scope k other e h) = subst (At scope k) (sym (form.outs-UnwrapLeft other e)) (λ b. (one scope _ e h b, (k, h)))
  inverted _ (rule.unwrap_right scope k other e h) = subst (At scope k) (sym (form.outs-UnwrapRight other e)) (λ b. (one scope _ e h b, (k, h)))
  inverted _ (rule.is_none scope item e h) = subst (At scope kind.Bool) (sym (form.outs-IsNone item e)) (λ b. (one scope _ e h b, h))
  inverted _ (rule.matched scope taken k e first_arm second_arm first second sides h i j) =
      subst (At scope k) (sym (form.outs-Match e (first_arm ∷ second_arm ∷ [])))
      (λ b.
      let n = neither (in_expr e) (in_arm first_arm || (in_arm second_arm || false)) b in
      let m = neither (in_arm first_arm) (in_arm second_arm || false) n.1 in
      let l = neither (in_arm second_arm) false m.1 in
      record { one = first_arm; two = second_arm; are = refl; taken = taken; first = first; second = second; sides = sides; value = h; one_typed = i; two_typed = j; built = n.0; one_built = m.0; two_built = l.0 })
  inverted _ (rule.into scope source k e same h) = subst (At scope k) (sym (form.outs-Into source e)) (one scope source e h)
  inverted _ (rule.jet scope word row es is h) = subst (At scope _) (sym (form.outs-Jet word es)) (λ b. absurd (cc))
  inverted _ (rule.call scope word f es is h) = subst (At scope f.result) (sym (form.outs-Call word es)) (λ b. (many scope _ es h b, (f, is.is)))
  inverted _ (rule.fold scope word count f item items start is same bound h i) = subst (At scope _) (sym (form.outs-Fold word count items start)) (λ b. absurd (cc))
  inverted _ (rule.array_fold scope word count f item items start is same h i) = subst (At scope _) (sym (form.outs-ArrayFold word count items start)) (λ b. absurd (cc))
  inverted _ (rule.for_while scope word f total given end width start context is same w l h i) = subst (At scope _) (sym (form.outs-ForWhile word start context)) (λ b. absurd (cc))
  inverted _ (rule.block scope k ss last h) = subst (At scope k) (sym (form.outs-Block ss last)) (lines scope k ss last h)
  inverted _ (rule.no_last scope) = tt
  inverted _ (rule.last scope k e h) = tt
  inverted _ (rule.binding scope k l p names e ss last b h i) = tt
  inverted _ (rule.plain scope k e ss last h i) = tt

  -- an expression is of the type that it is marked with, a sound one, and has its parts
  pub record Seen (scope : Scope) (k : HlType) (e : TypedExpr) : Type 0 where
    pub same : e.kind ≡ k
    pub sound : IsSound k
    pub parts : PartsOf around scope k (out-TypedForm e.form)

  abbrev SeenAs : Judged → Type 0
  SeenAs (ExprAt scope k e) = in_expr e ≡ false → Seen scope k e
  SeenAs _ = Unit {0}

  seen_as : (j : Judged) → Typed around j → SeenAs j
  seen_as _ (rule.expr scope k e same sound h) = λ b. record { same = same; sound = sound; parts = inverted (FormAt scope k e.form) h (sym (expr_by_form e) ∙ b) }
  seen_as (FormAt scope k f) h = tt
  seen_as (ExprsAt scope ks es) h = tt
  seen_as (BlockAt scope k ss last) h = tt

  pub seen : (scope : Scope) (k : HlType) (e : TypedExpr) → Typed around (ExprAt scope k e) → in_expr e ≡ false → Seen scope k e
  seen scope k e h = seen_as (ExprAt scope k e) h
