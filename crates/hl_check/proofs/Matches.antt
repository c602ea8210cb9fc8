-- Matches whose second arm is refused.
use Rattle.std.proofs.Common.{◌≡◌, List, [], ◌∷◌, ◌++◌, refl, sym, ap, ◌∙◌, subst, Result, Ok, Err, IsErrAnd}
use Rattle.hl_syntax.specs.declared.kinds.HlType.{HlType}
use Rattle.hl_syntax.specs.declared.kinds.TypedName.{TypedName}
use Rattle.hl_syntax.specs.declared.rules.Rule.{Rule}
use Rattle.hl_syntax.specs.declared.rules.Rule.TheVariants.{K6, K13}
use Rattle.hl_syntax.specs.declared.token.Span.{Span}
use Rattle.hl_data.specs.declared.typed.TypedExpr.{TypedExpr}
use Rattle.hl_data.specs.declared.typed.TypedForm.{TypedForm}
use Rattle.hl_data.specs.declared.typed.TypedForm.TheVariants as typed
use Rattle.hl_data.specs.declared.typed.TypedSide.{TypedSide}
use Rattle.simplicityhl.specs.Written.{Broken, then_walk}
use Rattle.hl_rules.specs.Places.{Scope}
use Rattle.hl_rules.specs.Exprs.{ExprWalk, ArmWalk, are_sides, side_walk, matched_type, match_walk}
use Rattle.hl_rules.specs.Steps as steps
use Rattle.hl_scope.specs.Checks.{ChecksMet}
use Rattle.hl_scope.specs.declared.refusal.CheckRefusal.{CheckRefusal}
use Rattle.hl_check.proofs.Rolled.{passed}
use Rattle.hl_check.proofs.Whole.{refused_as, shows_then}

module _ (aliases : List TypedName) (e : ExprWalk) (one two : ArmWalk) (span : Span) (scope : Scope) (expected : HlType) (rule : Rule) (first second : TypedSide) (first_bound second_bound : Scope)
    (value first_body : TypedExpr) (met after_value after_first : List TypedName) where
  abbrev last : Result (TypedExpr × List TypedName) Broken
  last = two.body (second_bound ++ scope) expected K6 after_first

  abbrev made : TypedExpr × List TypedName → Result (TypedForm × List TypedName) Broken
  made found = Ok (typed.Match value (record { side = first; body = first_body } ∷ record { side = second; body = found.0 } ∷ []), found.1)

  pub match_refused : (walk : Result (TypedExpr × List TypedName) Broken) (new : List TypedName) (refusal : CheckRefusal) (result : Result TypedForm CheckRefusal) →
      steps.needs (are_sides one.side two.side) K13 span ≡ Ok tt → side_walk aliases one.side ≡ Ok (first, first_bound) → side_walk aliases two.side ≡ Ok (second, second_bound) →
      e scope (matched_type first second) K6 met ≡ Ok (value, after_value) → one.body (first_bound ++ scope) expected K6 after_value ≡ Ok (first_body, after_first) →
      walk ≡ last → ChecksMet walk (Err refusal) new → IsErrAnd result (λ x. x ≡ refusal) → ChecksMet (match_walk aliases e one two span scope expected rule met) result new
  match_refused walk new refusal result a b d f g same h is =
      let whole : match_walk aliases e one two span scope expected rule met ≡ then_walk last made = rw (a, b, d, f, g) refl in
      subst (λ (w : Result (TypedForm × List TypedName) Broken). ChecksMet w result new) (sym whole)
      (passed (λ (x : TypedForm). (x, new)) (then_walk last made) refusal result
      (shows_then (λ (x : TypedExpr). (x, new)) (λ (x : TypedForm). (x, new)) last made refusal
      (refused_as (λ (x : TypedExpr). (x, new)) (λ (x : TypedExpr). (x, new)) walk last refusal same h)) is)
