-- The meaning of each form by that of its parts.
use Rattle.std.proofs.Common.{◌≡◌, ℕ, ◌++◌, List, map, Option, Some, None, option_map, sym, ap, ◌∙◌, true, false}
use Rattle.hl_data.specs.declared.typed.TypedArm.{TypedArm, out-TypedArm}
use Rattle.hl_data.specs.declared.typed.TypedExpr.{TypedExpr, out-TypedExpr}
use Rattle.hl_data.specs.declared.typed.TypedForm.{TypedForm, roll-TypedForm}
use Rattle.hl_data.specs.declared.typed.TypedForm.TheFolds.{fold-TypedForm, fold-roll-TypedForm, fold_out-TypedExpr, fold_out-TypedArm, fold-roll-TypedStatement, map-TypedForm}
use Rattle.hl_data.specs.declared.typed.TypedForm.TheOpen.{TypedForm-F, TypedStatement-F}
use Rattle.hl_data.specs.declared.typed.TypedForm.TheVariants as form
use Rattle.hl_data.specs.declared.typed.TypedStatement.{TypedStatement}
use Rattle.hl_data.specs.declared.typed.TypedStatement.TheVariants as statement
use Rattle.hl_data.specs.declared.value.HlValue.{HlValue}
use Rattle.hl_data.specs.declared.value.HlValue.TheVariants as value
use Rattle.hl_data.specs.declared.value.HlValue.TheViews.{out-HlValue}
use Rattle.hl_syntax.specs.declared.kinds.HlType.{HlType}
use Rattle.hl_syntax.specs.declared.kinds.HlType.TheViews.{out-HlType}
use Rattle.hl_syntax.specs.declared.tree.Pattern.{Pattern}
use Rattle.hl_meaning.specs.Answer.{gives, fails, and_then, shaped, known}
use Rattle.hl_meaning.specs.Jets.{jet_answer}
use Rattle.hl_meaning.specs.Scopes.{Binding, Scope, meant, bound}
use Rattle.hl_meaning.specs.Mean.{Function, Meaning, StatementMeaning, ArmMeaning, form_step, statement_step, arm_step, expression_step, mean, mean_statement, mean_arm, block_of, matched, all_in, made_of, taking, asserted, unwrapped, unwrapped_left, unwrapped_right, none_tested, number_at, converted, items_in_list, items_in_array, call_of, loop_over, counting_loop}

module _ (functions : List Function) (witness : List Binding) where
  abbrev mean_form : TypedForm → HlType → Meaning
  mean_form f = fold-TypedForm (HlType → Meaning) StatementMeaning ArmMeaning Meaning (form_step functions witness) (statement_step functions witness) (arm_step functions witness) (expression_step functions witness) f

  pub mean-Let : (pattern : Pattern) (kind : HlType) (e : TypedExpr) (after : Meaning) (scope : Scope) → mean_statement functions witness (statement.Let pattern kind e) after scope ≡ and_then (mean functions witness e scope) (λ v. shaped (bound pattern v) (λ new. after (new ++ scope)))
  unfolding mean mean_statement
  mean-Let pattern kind e after scope = ap (λ s. mean_statement functions witness s after scope) (sym (statement.rolls-Let pattern kind e)) ∙ ap (λ m. m after scope) (fold-roll-TypedStatement (HlType → Meaning) StatementMeaning ArmMeaning Meaning (form_step functions witness) (statement_step functions witness) (arm_step functions witness) (expression_step functions witness) (TypedStatement-F.Let pattern kind e))

  pub mean-Plain : (e : TypedExpr) (after : Meaning) (scope : Scope) → mean_statement functions witness (statement.Plain e) after scope ≡ and_then (mean functions witness e scope) (λ v. after scope)
  unfolding mean mean_statement
  mean-Plain e after scope = ap (λ s. mean_statement functions witness s after scope) (sym (statement.rolls-Plain e)) ∙ ap (λ m. m after scope) (fold-roll-TypedStatement (HlType → Meaning) StatementMeaning ArmMeaning Meaning (form_step functions witness) (statement_step functions witness) (arm_step functions witness) (expression_step functions witness) (TypedStatement-F.Plain e))

  pub arm-side : (a : TypedArm) → (mean_arm functions witness a).side ≡ (out-TypedArm a).side
  unfolding mean_arm
  arm-side a = ap (λ m. m.side) (fold_out-TypedArm (HlType → Meaning) StatementMeaning ArmMeaning Meaning (form_step functions witness) (statement_step functions witness) (arm_step functions witness) (expression_step functions witness) a)

  pub arm-body : (a : TypedArm) → (mean_arm functions witness a).body ≡ mean functions witness (out-TypedArm a).body
  unfolding mean mean_arm
  arm-body a = ap (λ m. m.body) (fold_out-TypedArm (HlType → Meaning) StatementMeaning ArmMeaning Meaning (form_step functions witness) (statement_step functions witness) (arm_step functions witness) (expression_step functions witness) a)

  module _ (e : TypedExpr) where
    mean_at : (f : TypedForm-F TypedForm TypedStatement TypedArm TypedExpr) → (out-TypedExpr e).form ≡ roll-TypedForm f → (scope : Scope) → mean functions witness e scope ≡ form_step functions witness (map-TypedForm TypedForm TypedStatement TypedArm TypedExpr (HlType → Meaning) StatementMeaning ArmMeaning Meaning mean_form (mean_statement functions witness) (mean_arm functions witness) (mean functions witness) f) (out-TypedExpr e).kind scope
    unfolding mean mean_statement mean_arm
    mean_at f is scope =
        ap (λ m. m scope) (fold_out-TypedExpr (HlType → Meaning) StatementMeaning ArmMeaning Meaning (form_step functions witness) (statement_step functions witness) (arm_step functions witness) (expression_step functions witness) e)
        ∙ ap (λ g. mean_form g (out-TypedExpr e).kind scope) is
        ∙ ap (λ m. m (out-TypedExpr e).kind scope) (fold-roll-TypedForm (HlType → Meaning) StatementMeaning ArmMeaning Meaning (form_step functions witness) (statement_step functions witness) (arm_step functions witness) (expression_step functions witness) f)

    pub mean-Block : (ss : List TypedStatement) (last : Option TypedExpr) → (out-TypedExpr e).form ≡ form.Block ss last → (scope : Scope) → mean functions witness e scope ≡ block_of (map (mean_statement functions witness) ss) (option_map (mean functions witness) last) scope
    mean-Block ss None is scope = mean_at (TypedForm-F.Block ss None) (is ∙ sym (form.rolls-Block ss None)) scope
    mean-Block ss (Some last) is scope = mean_at (TypedForm-F.Block ss (Some last)) (is ∙ sym (form.rolls-Block ss (Some last))) scope

    pub mean-Match : (part : TypedExpr) (arms : List TypedArm) → (out-TypedExpr e).form ≡ form.Match part arms → (scope : Scope) → mean functions witness e scope ≡ and_then (mean functions witness part scope) (λ v. matched (map (mean_arm functions witness) arms) (out-HlValue v) scope)
    mean-Match part arms is scope = mean_at (TypedForm-F.Match part arms) (is ∙ sym (form.rolls-Match part arms)) scope

    pub mean-Tuple : (es : List TypedExpr) → (out-TypedExpr e).form ≡ form.Tuple es → (scope : Scope) → mean functions witness e scope ≡ made_of value.Tuple (map (mean functions witness) es) scope
    mean-Tuple es is scope = mean_at (TypedForm-F.Tuple es) (is ∙ sym (form.rolls-Tuple es)) scope

    pub mean-Array : (es : List TypedExpr) → (out-TypedExpr e).form ≡ form.Array es → (scope : Scope) → mean functions witness e scope ≡ made_of value.Array (map (mean functions witness) es) scope
    mean-Array es is scope = mean_at (TypedForm-F.Array es) (is ∙ sym (form.rolls-Array es)) scope

    pub mean-List : (es : List TypedExpr) → (out-TypedExpr e).form ≡ form.List es → (scope : Scope) → mean functions witness e scope ≡ made_of value.List (map (mean functions witness) es) scope
    mean-List es is scope = mean_at (TypedForm-F.List es) (is ∙ sym (form.rolls-List es)) scope

    pub mean-Assert : (part : TypedExpr) → (out-TypedExpr e).form ≡ form.Assert part → (scope : Scope) → mean functions witness e scope ≡ taking asserted (mean functions witness part) scope
    mean-Assert part is scope = mean_at (TypedForm-F.Assert part) (is ∙ sym (form.rolls-Assert part)) scope

    pub mean-Dbg : (part : TypedExpr) → (out-TypedExpr e).form ≡ form.Dbg part → (scope : Scope) → mean functions witness e scope ≡ mean functions witness part scope
    mean-Dbg part is scope = mean_at (TypedForm-F.Dbg part) (is ∙ sym (form.rolls-Dbg part)) scope

    pub mean-Panic : (out-TypedExpr e).form ≡ form.Panic → (scope : Scope) → mean functions witness e scope ≡ fails
    mean-Panic is scope = mean_at TypedForm-F.Panic (is ∙ sym (form.rolls-Panic)) scope

    pub mean-Jet : (name : List ℕ) (es : List TypedExpr) → (out-TypedExpr e).form ≡ form.Jet name es → (scope : Scope) → mean functions witness e scope ≡ and_then (all_in (map (mean functions witness) es) scope) (jet_answer name)
    mean-Jet name es is scope = mean_at (TypedForm-F.Jet name es) (is ∙ sym (form.rolls-Jet name es)) scope

    pub mean-Witness : (name : List ℕ) → (out-TypedExpr e).form ≡ form.Witness name → (scope : Scope) → mean functions witness e scope ≡ known (meant name witness)
    mean-Witness name is scope = mean_at (TypedForm-F.Witness name) (is ∙ sym (form.rolls-Witness name)) scope

    pub mean-Value : (v : HlValue) → (out-TypedExpr e).form ≡ form.Value v → (scope : Scope) → mean functions witness e scope ≡ gives v
    mean-Value v is scope = mean_at (TypedForm-F.Value v) (is ∙ sym (form.rolls-Value v)) scope

    pub mean-Into : (from : HlType) (part : TypedExpr) → (out-TypedExpr e).form ≡ form.Into from part → (scope : Scope) → mean functions witness e scope ≡ and_then (mean functions witness part scope) (converted from (out-TypedExpr e).kind)
    mean-Into from part is scope = mean_at (TypedForm-F.Into from part) (is ∙ sym (form.rolls-Into from part)) scope

    pub mean-Unwrap : (part : TypedExpr) → (out-TypedExpr e).form ≡ form.Unwrap part → (scope : Scope) → mean functions witness e scope ≡ taking unwrapped (mean functions witness part) scope
    mean-Unwrap part is scope = mean_at (TypedForm-F.Unwrap part) (is ∙ sym (form.rolls-Unwrap part)) scope

    pub mean-UnwrapLeft : (kind : HlType) (part : TypedExpr) → (out-TypedExpr e).form ≡ form.UnwrapLeft kind part → (scope : Scope) → mean functions witness e scope ≡ taking unwrapped_left (mean functions witness part) scope
    mean-UnwrapLeft kind part is scope = mean_at (TypedForm-F.UnwrapLeft kind part) (is ∙ sym (form.rolls-UnwrapLeft kind part)) scope

    pub mean-UnwrapRight : (kind : HlType) (part : TypedExpr) → (out-TypedExpr e).form ≡ form.UnwrapRight kind part → (scope : Scope) → mean functions witness e scope ≡ taking unwrapped_right (mean functions witness part) scope
    mean-UnwrapRight kind part is scope = mean_at (TypedForm-F.UnwrapRight kind part) (is ∙ sym (form.rolls-UnwrapRight kind part)) scope

    pub mean-IsNone : (kind : HlType) (part : TypedExpr) → (out-TypedExpr e).form ≡ form.IsNone kind part → (scope : Scope) → mean functions witness e scope ≡ taking none_tested (mean functions witness part) scope
    mean-IsNone kind part is scope = mean_at (TypedForm-F.IsNone kind part) (is ∙ sym (form.rolls-IsNone kind part)) scope

    pub mean-Fold : (name count : List ℕ) (items start : TypedExpr) → (out-TypedExpr e).form ≡ form.Fold name count items start → (scope : Scope) → mean functions witness e scope ≡ loop_over functions witness items_in_list name ((mean functions witness) items) ((mean functions witness) start) scope
    mean-Fold name count items start is scope = mean_at (TypedForm-F.Fold name count items start) (is ∙ sym (form.rolls-Fold name count items start)) scope

    pub mean-ArrayFold : (name count : List ℕ) (items start : TypedExpr) → (out-TypedExpr e).form ≡ form.ArrayFold name count items start → (scope : Scope) → mean functions witness e scope ≡ loop_over functions witness items_in_array name ((mean functions witness) items) ((mean functions witness) start) scope
    mean-ArrayFold name count items start is scope = mean_at (TypedForm-F.ArrayFold name count items start) (is ∙ sym (form.rolls-ArrayFold name count items start)) scope

    pub mean-ForWhile : (name : List ℕ) (start context : TypedExpr) → (out-TypedExpr e).form ≡ form.ForWhile name start context → (scope : Scope) → mean functions witness e scope ≡ counting_loop functions witness name ((mean functions witness) start) ((mean functions witness) context) scope
    mean-ForWhile name start context is scope = mean_at (TypedForm-F.ForWhile name start context) (is ∙ sym (form.rolls-ForWhile name start context)) scope

    pub mean-Left : (part : TypedExpr) → (out-TypedExpr e).form ≡ form.Left part → (scope : Scope) → mean functions witness e scope ≡ and_then (mean functions witness part scope) (λ v. gives (value.Left v))
    mean-Left part is scope = mean_at (TypedForm-F.Left part) (is ∙ sym (form.rolls-Left part)) scope

    pub mean-Right : (part : TypedExpr) → (out-TypedExpr e).form ≡ form.Right part → (scope : Scope) → mean functions witness e scope ≡ and_then (mean functions witness part scope) (λ v. gives (value.Right v))
    mean-Right part is scope = mean_at (TypedForm-F.Right part) (is ∙ sym (form.rolls-Right part)) scope

    pub mean-Some : (part : TypedExpr) → (out-TypedExpr e).form ≡ form.Some part → (scope : Scope) → mean functions witness e scope ≡ and_then (mean functions witness part scope) (λ v. gives (value.Some v))
    mean-Some part is scope = mean_at (TypedForm-F.Some part) (is ∙ sym (form.rolls-Some part)) scope

    pub mean-Nothing : (out-TypedExpr e).form ≡ form.Nothing → (scope : Scope) → mean functions witness e scope ≡ gives value.Nothing
    mean-Nothing is scope = mean_at TypedForm-F.Nothing (is ∙ sym (form.rolls-Nothing)) scope

    pub mean-True : (out-TypedExpr e).form ≡ form.True → (scope : Scope) → mean functions witness e scope ≡ gives (value.Bool true)
    mean-True is scope = mean_at TypedForm-F.True (is ∙ sym (form.rolls-True)) scope

    pub mean-False : (out-TypedExpr e).form ≡ form.False → (scope : Scope) → mean functions witness e scope ≡ gives (value.Bool false)
    mean-False is scope = mean_at TypedForm-F.False (is ∙ sym (form.rolls-False)) scope

    pub mean-Literal : (word : List ℕ) → (out-TypedExpr e).form ≡ form.Literal word → (scope : Scope) → mean functions witness e scope ≡ number_at (out-HlType (out-TypedExpr e).kind) word
    mean-Literal word is scope = mean_at (TypedForm-F.Literal word) (is ∙ sym (form.rolls-Literal word)) scope

    pub mean-Call : (name : List ℕ) (es : List TypedExpr) → (out-TypedExpr e).form ≡ form.Call name es → (scope : Scope) → mean functions witness e scope ≡ and_then (all_in (map (mean functions witness) es) scope) (call_of functions witness name)
    mean-Call name es is scope = mean_at (TypedForm-F.Call name es) (is ∙ sym (form.rolls-Call name es)) scope

    pub mean-Name : (name : List ℕ) → (out-TypedExpr e).form ≡ form.Name name → (scope : Scope) → mean functions witness e scope ≡ known (meant name scope)
    mean-Name name is scope = mean_at (TypedForm-F.Name name) (is ∙ sym (form.rolls-Name name)) scope
