-- The term of each form by the terms of its parts.
use Rattle.std.proofs.Common.{◌≡◌, ℕ, List, map, Option, Some, None, option_map, sym, ap, ◌∙◌}
use Rattle.hl_data.specs.declared.typed.TypedArm.{TypedArm, out-TypedArm}
use Rattle.hl_data.specs.declared.typed.TypedExpr.{TypedExpr, out-TypedExpr}
use Rattle.hl_data.specs.declared.typed.TypedForm.{TypedForm, roll-TypedForm}
use Rattle.hl_data.specs.declared.typed.TypedForm.TheFolds.{fold-TypedForm, fold-roll-TypedForm, fold_out-TypedExpr, fold_out-TypedArm, fold-roll-TypedStatement, map-TypedForm}
use Rattle.hl_data.specs.declared.typed.TypedForm.TheOpen.{TypedForm-F, TypedStatement-F}
use Rattle.hl_data.specs.declared.typed.TypedForm.TheVariants as form
use Rattle.hl_data.specs.declared.typed.TypedStatement.{TypedStatement}
use Rattle.hl_data.specs.declared.typed.TypedStatement.TheVariants as statement
use Rattle.hl_data.specs.declared.value.HlValue.{HlValue}
use Rattle.hl_syntax.specs.declared.kinds.HlType.{HlType}
use Rattle.hl_syntax.specs.declared.kinds.HlType.TheViews.{out-HlType}
use Rattle.hl_syntax.specs.declared.kinds.TypedName.{TypedName}
use Rattle.hl_syntax.specs.declared.tree.Pattern.{Pattern}
use Rattle.simplicity.specs.Makes.{unit, pair, to_left, to_right, fail, witness, tuple}
use Rattle.simplicity.specs.Types.{One}
use Rattle.simplicityhl.specs.Kinds as kinds
use Rattle.simplicityhl.specs.Tokens.{decimal_value}
use Rattle.hl_terms.specs.Shapes.{Shape, kind_of, pattern_shape}
use Rattle.hl_terms.specs.Paths.{variable_term, witness_term}
use Rattle.hl_terms.specs.Translated.{Expansions, FunctionTerm, Translator, StatementTranslator, ArmTranslator, form_step, statement_step, arm_step, expression_step, translated, statement_translated, arm_translated, or_fail, true_term, false_term, list_at, literal_at, item_of, left_of, right_of, value_term, asserted, unwrapped_left, unwrapped_right, none_tested, match_term, block_term, each_in, called, witness_number, witness_or, function_named, list_fold_of, array_fold_of, for_while_of}

module _ (x : Expansions) (functions : List FunctionTerm) (witnesses : List TypedName) where
  abbrev form_translated : TypedForm → HlType → Translator
  form_translated f = fold-TypedForm (HlType → Translator) StatementTranslator ArmTranslator Translator (form_step x functions witnesses) (statement_step x functions witnesses) (arm_step x functions witnesses) (expression_step x functions witnesses) f

  pub term-Let : (pattern : Pattern) (kind : HlType) (e : TypedExpr) →
      statement_translated x functions witnesses (statement.Let pattern kind e) ≡ record { value = translated x functions witnesses e; binds = Some (pattern_shape pattern kind) }
  unfolding translated statement_translated
  term-Let pattern kind e =
      ap (statement_translated x functions witnesses) (sym (statement.rolls-Let pattern kind e))
      ∙ fold-roll-TypedStatement (HlType → Translator) StatementTranslator ArmTranslator Translator (form_step x functions witnesses) (statement_step x functions witnesses) (arm_step x functions witnesses) (expression_step x functions witnesses) (TypedStatement-F.Let pattern kind e)

  pub term-Plain : (e : TypedExpr) → statement_translated x functions witnesses (statement.Plain e) ≡ record { value = translated x functions witnesses e; binds = None }
  unfolding translated statement_translated
  term-Plain e =
      ap (statement_translated x functions witnesses) (sym (statement.rolls-Plain e))
      ∙ fold-roll-TypedStatement (HlType → Translator) StatementTranslator ArmTranslator Translator (form_step x functions witnesses) (statement_step x functions witnesses) (arm_step x functions witnesses) (expression_step x functions witnesses) (TypedStatement-F.Plain e)

  pub term-arm : (a : TypedArm) → arm_translated x functions witnesses a ≡ record { side = (out-TypedArm a).side; body = translated x functions witnesses (out-TypedArm a).body }
  unfolding translated arm_translated
  term-arm a = fold_out-TypedArm (HlType → Translator) StatementTranslator ArmTranslator Translator (form_step x functions witnesses) (statement_step x functions witnesses) (arm_step x functions witnesses) (expression_step x functions witnesses) a

  module _ (e : TypedExpr) (k : HlType) (same : (out-TypedExpr e).kind ≡ k) where
    term_at : (f : TypedForm-F TypedForm TypedStatement TypedArm TypedExpr) → (out-TypedExpr e).form ≡ roll-TypedForm f → (scope : Shape) →
        translated x functions witnesses e scope ≡ form_step x functions witnesses (map-TypedForm TypedForm TypedStatement TypedArm TypedExpr (HlType → Translator) StatementTranslator ArmTranslator Translator form_translated (statement_translated x functions witnesses) (arm_translated x functions witnesses) (translated x functions witnesses) f) k scope
    unfolding translated statement_translated arm_translated
    term_at f is scope =
        ap (λ m. m scope) (fold_out-TypedExpr (HlType → Translator) StatementTranslator ArmTranslator Translator (form_step x functions witnesses) (statement_step x functions witnesses) (arm_step x functions witnesses) (expression_step x functions witnesses) e)
        ∙ ap (λ g. form_translated g (out-TypedExpr e).kind scope) is
        ∙ ap (λ m. m (out-TypedExpr e).kind scope) (fold-roll-TypedForm (HlType → Translator) StatementTranslator ArmTranslator Translator (form_step x functions witnesses) (statement_step x functions witnesses) (arm_step x functions witnesses) (expression_step x functions witnesses) f)
        ∙ ap (λ kind. form_step x functions witnesses (map-TypedForm TypedForm TypedStatement TypedArm TypedExpr (HlType → Translator) StatementTranslator ArmTranslator Translator form_translated (statement_translated x functions witnesses) (arm_translated x functions witnesses) (translated x functions witnesses) f) kind scope) same

    pub term-Block : (ss : List TypedStatement) (last : Option TypedExpr) → (out-TypedExpr e).form ≡ form.Block ss last → (scope : Shape) → translated x functions witnesses e scope ≡ block_term (map (statement_translated x functions witnesses) ss) (option_map (translated x functions witnesses) last) scope
    term-Block ss None is scope = term_at (TypedForm-F.Block ss None) (is ∙ sym (form.rolls-Block ss None)) scope
    term-Block ss (Some last) is scope = term_at (TypedForm-F.Block ss (Some last)) (is ∙ sym (form.rolls-Block ss (Some last))) scope

    pub term-Match : (part : TypedExpr) (arms : List TypedArm) → (out-TypedExpr e).form ≡ form.Match part arms → (scope : Shape) → translated x functions witnesses e scope ≡ match_term (translated x functions witnesses part scope) (map (arm_translated x functions witnesses) arms) k scope
    term-Match part arms is scope = term_at (TypedForm-F.Match part arms) (is ∙ sym (form.rolls-Match part arms)) scope

    pub term-Tuple : (es : List TypedExpr) → (out-TypedExpr e).form ≡ form.Tuple es → (scope : Shape) → translated x functions witnesses e scope ≡ tuple (kind_of scope) (each_in (map (translated x functions witnesses) es) scope)
    term-Tuple es is scope = term_at (TypedForm-F.Tuple es) (is ∙ sym (form.rolls-Tuple es)) scope

    pub term-Array : (es : List TypedExpr) → (out-TypedExpr e).form ≡ form.Array es → (scope : Shape) → translated x functions witnesses e scope ≡ tuple (kind_of scope) (each_in (map (translated x functions witnesses) es) scope)
    term-Array es is scope = term_at (TypedForm-F.Array es) (is ∙ sym (form.rolls-Array es)) scope

    pub term-List : (es : List TypedExpr) → (out-TypedExpr e).form ≡ form.List es → (scope : Shape) → translated x functions witnesses e scope ≡ list_at (out-HlType k) (kind_of scope) (each_in (map (translated x functions witnesses) es) scope)
    term-List es is scope = term_at (TypedForm-F.List es) (is ∙ sym (form.rolls-List es)) scope

    pub term-Assert : (part : TypedExpr) → (out-TypedExpr e).form ≡ form.Assert part → (scope : Shape) → translated x functions witnesses e scope ≡ asserted (translated x functions witnesses part scope) (kind_of scope)
    term-Assert part is scope = term_at (TypedForm-F.Assert part) (is ∙ sym (form.rolls-Assert part)) scope

    pub term-Dbg : (part : TypedExpr) → (out-TypedExpr e).form ≡ form.Dbg part → (scope : Shape) → translated x functions witnesses e scope ≡ translated x functions witnesses part scope
    term-Dbg part is scope = term_at (TypedForm-F.Dbg part) (is ∙ sym (form.rolls-Dbg part)) scope

    pub term-Panic : (out-TypedExpr e).form ≡ form.Panic → (scope : Shape) → translated x functions witnesses e scope ≡ fail (kind_of scope) (kinds.form k)
    term-Panic is scope = term_at TypedForm-F.Panic (is ∙ sym form.rolls-Panic) scope

    pub term-Jet : (name : List ℕ) (es : List TypedExpr) → (out-TypedExpr e).form ≡ form.Jet name es → (scope : Shape) → translated x functions witnesses e scope ≡ called (x.jet name) (tuple (kind_of scope) (each_in (map (translated x functions witnesses) es) scope)) k
    term-Jet name es is scope = term_at (TypedForm-F.Jet name es) (is ∙ sym (form.rolls-Jet name es)) scope

    pub term-Witness : (name : List ℕ) → (out-TypedExpr e).form ≡ form.Witness name → (scope : Shape) → translated x functions witnesses e scope ≡ witness_or (witness_term name scope) (witness (kind_of scope) (kinds.form k) (witness_number witnesses name))
    term-Witness name is scope = term_at (TypedForm-F.Witness name) (is ∙ sym (form.rolls-Witness name)) scope

    pub term-Value : (v : HlValue) → (out-TypedExpr e).form ≡ form.Value v → (scope : Shape) → translated x functions witnesses e scope ≡ value_term v k (kind_of scope)
    term-Value v is scope = term_at (TypedForm-F.Value v) (is ∙ sym (form.rolls-Value v)) scope

    pub term-Into : (from : HlType) (part : TypedExpr) → (out-TypedExpr e).form ≡ form.Into from part → (scope : Shape) → translated x functions witnesses e scope ≡ translated x functions witnesses part scope
    term-Into from part is scope = term_at (TypedForm-F.Into from part) (is ∙ sym (form.rolls-Into from part)) scope

    pub term-Unwrap : (part : TypedExpr) → (out-TypedExpr e).form ≡ form.Unwrap part → (scope : Shape) → translated x functions witnesses e scope ≡ unwrapped_right One (kinds.form k) (translated x functions witnesses part scope) (kind_of scope)
    term-Unwrap part is scope = term_at (TypedForm-F.Unwrap part) (is ∙ sym (form.rolls-Unwrap part)) scope

    pub term-UnwrapLeft : (other : HlType) (part : TypedExpr) → (out-TypedExpr e).form ≡ form.UnwrapLeft other part → (scope : Shape) → translated x functions witnesses e scope ≡ unwrapped_left (kinds.form k) (kinds.form other) (translated x functions witnesses part scope) (kind_of scope)
    term-UnwrapLeft other part is scope = term_at (TypedForm-F.UnwrapLeft other part) (is ∙ sym (form.rolls-UnwrapLeft other part)) scope

    pub term-UnwrapRight : (other : HlType) (part : TypedExpr) → (out-TypedExpr e).form ≡ form.UnwrapRight other part → (scope : Shape) → translated x functions witnesses e scope ≡ unwrapped_right (kinds.form other) (kinds.form k) (translated x functions witnesses part scope) (kind_of scope)
    term-UnwrapRight other part is scope = term_at (TypedForm-F.UnwrapRight other part) (is ∙ sym (form.rolls-UnwrapRight other part)) scope

    pub term-IsNone : (item : HlType) (part : TypedExpr) → (out-TypedExpr e).form ≡ form.IsNone item part → (scope : Shape) → translated x functions witnesses e scope ≡ none_tested (kinds.form item) (translated x functions witnesses part scope) (kind_of scope)
    term-IsNone item part is scope = term_at (TypedForm-F.IsNone item part) (is ∙ sym (form.rolls-IsNone item part)) scope

    pub term-Fold : (name count : List ℕ) (items start : TypedExpr) → (out-TypedExpr e).form ≡ form.Fold name count items start → (scope : Shape) → translated x functions witnesses e scope ≡ called (list_fold_of x functions witnesses name (decimal_value count)) (pair (translated x functions witnesses items scope) (translated x functions witnesses start scope)) k
    term-Fold name count items start is scope = term_at (TypedForm-F.Fold name count items start) (is ∙ sym (form.rolls-Fold name count items start)) scope

    pub term-ArrayFold : (name count : List ℕ) (items start : TypedExpr) → (out-TypedExpr e).form ≡ form.ArrayFold name count items start → (scope : Shape) → translated x functions witnesses e scope ≡ called (array_fold_of x functions witnesses name (decimal_value count)) (pair (translated x functions witnesses items scope) (translated x functions witnesses start scope)) k
    term-ArrayFold name count items start is scope = term_at (TypedForm-F.ArrayFold name count items start) (is ∙ sym (form.rolls-ArrayFold name count items start)) scope

    pub term-ForWhile : (name : List ℕ) (start context : TypedExpr) → (out-TypedExpr e).form ≡ form.ForWhile name start context → (scope : Shape) → translated x functions witnesses e scope ≡ called (for_while_of x functions witnesses name) (pair (translated x functions witnesses start scope) (translated x functions witnesses context scope)) k
    term-ForWhile name start context is scope = term_at (TypedForm-F.ForWhile name start context) (is ∙ sym (form.rolls-ForWhile name start context)) scope

    pub term-Left : (part : TypedExpr) → (out-TypedExpr e).form ≡ form.Left part → (scope : Shape) → translated x functions witnesses e scope ≡ to_left (right_of (out-HlType k)) (translated x functions witnesses part scope)
    term-Left part is scope = term_at (TypedForm-F.Left part) (is ∙ sym (form.rolls-Left part)) scope

    pub term-Right : (part : TypedExpr) → (out-TypedExpr e).form ≡ form.Right part → (scope : Shape) → translated x functions witnesses e scope ≡ to_right (left_of (out-HlType k)) (translated x functions witnesses part scope)
    term-Right part is scope = term_at (TypedForm-F.Right part) (is ∙ sym (form.rolls-Right part)) scope

    pub term-Some : (part : TypedExpr) → (out-TypedExpr e).form ≡ form.Some part → (scope : Shape) → translated x functions witnesses e scope ≡ to_right One (translated x functions witnesses part scope)
    term-Some part is scope = term_at (TypedForm-F.Some part) (is ∙ sym (form.rolls-Some part)) scope

    pub term-Nothing : (out-TypedExpr e).form ≡ form.Nothing → (scope : Shape) → translated x functions witnesses e scope ≡ to_left (item_of (out-HlType k)) (unit (kind_of scope))
    term-Nothing is scope = term_at TypedForm-F.Nothing (is ∙ sym form.rolls-Nothing) scope

    pub term-True : (out-TypedExpr e).form ≡ form.True → (scope : Shape) → translated x functions witnesses e scope ≡ true_term (kind_of scope)
    term-True is scope = term_at TypedForm-F.True (is ∙ sym form.rolls-True) scope

    pub term-False : (out-TypedExpr e).form ≡ form.False → (scope : Shape) → translated x functions witnesses e scope ≡ false_term (kind_of scope)
    term-False is scope = term_at TypedForm-F.False (is ∙ sym form.rolls-False) scope

    pub term-Literal : (word : List ℕ) → (out-TypedExpr e).form ≡ form.Literal word → (scope : Shape) → translated x functions witnesses e scope ≡ literal_at (out-HlType k) (kind_of scope) word
    term-Literal word is scope = term_at (TypedForm-F.Literal word) (is ∙ sym (form.rolls-Literal word)) scope

    pub term-Call : (name : List ℕ) (es : List TypedExpr) → (out-TypedExpr e).form ≡ form.Call name es → (scope : Shape) → translated x functions witnesses e scope ≡ called (option_map (λ f. f.term) (function_named x functions witnesses name)) (tuple (kind_of scope) (each_in (map (translated x functions witnesses) es) scope)) k
    term-Call name es is scope = term_at (TypedForm-F.Call name es) (is ∙ sym (form.rolls-Call name es)) scope

    pub term-Name : (name : List ℕ) → (out-TypedExpr e).form ≡ form.Name name → (scope : Shape) → translated x functions witnesses e scope ≡ or_fail (variable_term name scope) (kind_of scope) (kinds.form k)
    term-Name name is scope = term_at (TypedForm-F.Name name) (is ∙ sym (form.rolls-Name name)) scope
