-- Loops over items and over a counter, with functions that are called.
use Rattle.std.proofs.Common.{◌≡◌, ℕ, ◌^◌, List, [], ◌∷◌, map, find, bytes_eq, Option, Some, sym, ap, ◌∙◌, subst, arith, refl, IsTrue}
use Rattle.hl_data.specs.declared.typed.TypedExpr.{TypedExpr}
use Rattle.hl_data.specs.declared.typed.TypedFunction.{TypedFunction}
use Rattle.hl_data.specs.declared.value.HlValue.{HlValue}
use Rattle.hl_data.specs.declared.value.HlValue.TheOpen.{HlValue-F}
use Rattle.hl_data.specs.declared.value.HlValue.TheViews.{out-HlValue}
use Rattle.hl_syntax.specs.declared.kinds.HlType.{HlType}
use Rattle.hl_syntax.specs.declared.kinds.HlType.TheVariants as kind
use Rattle.hl_syntax.specs.declared.kinds.HlType.TheViews.{out-HlType}
use Rattle.hl_syntax.specs.declared.kinds.TypedName.{TypedName}
use Rattle.hl_meaning.specs.Loops.{is_counter_width}
use Rattle.hl_meaning.specs.Mean.{Meaning, Function, mean, counter_width, number_width, loop_over, counting_loop}
use Rattle.hl_meaning.specs.Scopes as scopes
use Rattle.hl_meaning.specs.Scopes.{Binding}
use Rattle.hl_meaning.specs.Values.{word_of}
use Rattle.hl_rules.specs.Exprs.{param_types}
use Rattle.hl_typing.proofs.Every.{Every}
use Rattle.hl_meaning.specs.Entries.{IsValueOf}
use Rattle.hl_progress.specs.Held.{HasAnswer, AreValuesOf}
use Rattle.hl_progress.proofs.Answers.{value_then, known_then, shaped_then, folded_holds, counted_holds}
use Rattle.hl_progress.proofs.Called.{Called}
use Rattle.hl_progress.proofs.Fits.{word_fits}

-- the width of the counter, the third of the parameters
width_there : (params : List TypedName) (one two : HlType) (width : ℕ) → map (λ p. p.kind) params ≡ one ∷ two ∷ kind.UInt width ∷ [] → IsTrue (is_counter_width width) → counter_width params ≡ Some width
width_there (a ∷ b ∷ c ∷ []) one two width are counts =
    let same : c.kind ≡ kind.UInt width = cc in
    ap number_width (ap out-HlType same ∙ kind.outs-UInt width) ∙ rw counts refl
width_there [] one two width are counts = absurd (cc)
width_there (a ∷ []) one two width are counts = absurd (cc)
width_there (a ∷ b ∷ []) one two width are counts = absurd (cc)
width_there (a ∷ b ∷ c ∷ d ∷ es) one two width are counts = absurd (cc)

-- the items in a value of a type
abbrev pub HasItems : (HlValue-F HlValue → Option (List HlValue)) → HlType → HlType → Type 0
HasItems items_in list item = (v : HlValue) → IsValueOf v list → (vs : List HlValue) × (items_in (out-HlValue v) ≡ Some vs) × Every (λ u. IsValueOf u item) vs

module _ (functions : List Function) (witness : List Binding) where
  abbrev run_mean : TypedExpr → Meaning
  run_mean e = mean functions witness e

  -- what a loop over items gives
  pub loop_holds : (name : List ℕ) (f : TypedFunction) (item list : HlType) (items start : TypedExpr) (values : scopes.Scope) → Called functions name f → param_types f ≡ item ∷ f.result ∷ [] →
      (items_in : HlValue-F HlValue → Option (List HlValue)) → HasItems items_in list item → HasAnswer list (run_mean items values) → HasAnswer f.result (run_mean start values) →
      HasAnswer f.result (loop_over functions witness items_in name (run_mean items) (run_mean start) values)
  loop_holds name f item list items start values c are items_in inner items_hold start_holds =
      shaped_then (λ u. IsValueOf u f.result) (find (λ g. bytes_eq name g.name) functions) c.run _ c.there
      (value_then list f.result (run_mean items values) _ items_hold (λ v fits.
      let all = inner v fits in
      known_then (λ u. IsValueOf u f.result) (items_in (out-HlValue v)) all.0 _ all.1
      (value_then f.result f.result (run_mean start values) _ start_holds (λ made made_fits. folded_holds c.run.run item f.result all.0 made
      (λ v m first second. c.runs (v ∷ m ∷ []) (subst (AreValuesOf (v ∷ m ∷ [])) (sym are) (first, (second, tt)))) all.2 made_fits))))

  -- what a counting loop gives
  pub while_holds : (name : List ℕ) (f : TypedFunction) (total given end : HlType) (width : ℕ) (start context : TypedExpr) (values : scopes.Scope) → Called functions name f →
      param_types f ≡ total ∷ given ∷ kind.UInt width ∷ [] → IsTrue (is_counter_width width) → f.result ≡ kind.Either end total → HasAnswer total (run_mean start values) →
      HasAnswer given (run_mean context values) → HasAnswer f.result (counting_loop functions witness name (run_mean start) (run_mean context) values)
  while_holds name f total given end width start context values c are counts ends start_holds context_holds =
      let width_is : counter_width c.run.params ≡ Some width = ap counter_width c.params ∙ width_there f.params total given width are counts in
      shaped_then (λ u. IsValueOf u f.result) (find (λ g. bytes_eq name g.name) functions) c.run _ c.there
      (known_then (λ u. IsValueOf u f.result) (counter_width c.run.params) width _ width_is
      (value_then total f.result (run_mean start values) _ start_holds (λ made made_fits. value_then given f.result (run_mean context values) _ context_holds (λ held held_fits.
      counted_holds c.run.run width f.result end total held (2 ^ width) 0 made (ap out-HlType ends ∙ kind.outs-Either end total)
      (λ m n less m_fits. c.runs (m ∷ held ∷ word_of width n ∷ []) (subst (AreValuesOf (m ∷ held ∷ word_of width n ∷ [])) (sym are)
      (m_fits, (held_fits, (word_fits width n (kind.UInt width) (kind.outs-UInt width) less, tt)))))
      (omega arith) made_fits))))
