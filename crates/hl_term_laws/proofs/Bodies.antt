-- The term of what is typed by the rules renders its meaning, in every scope.
use Rattle.std.proofs.Common.{◌≡◌, ℕ, suc, ◌<◌, ◌^◌, List, [], ◌∷◌, ◌++◌, length, map, replicate, Option, Some, None, option_map, refl, sym, ap, ◌∙◌, subst, arith, IsTrue}
use Rattle.std.proofs.lemmas.List.{length-map}
use Rattle.std.specs.Prelude.{option_and_then, IsSome}
use Rattle.hl_data.specs.declared.typed.TypedArm.{TypedArm}
use Rattle.hl_data.specs.declared.typed.TypedExpr.{TypedExpr}
use Rattle.hl_data.specs.declared.typed.TypedForm.TheVariants as typed
use Rattle.hl_data.specs.declared.typed.TypedFunction.{TypedFunction}
use Rattle.hl_data.specs.declared.typed.TypedSide.{TypedSide}
use Rattle.hl_data.specs.declared.typed.TypedStatement.{TypedStatement}
use Rattle.hl_data.specs.declared.typed.TypedStatement.TheVariants as statements
use Rattle.hl_data.specs.declared.value.HlValue.TheViews.{out-HlValue}
use Rattle.hl_syntax.specs.declared.kinds.HlType.{HlType}
use Rattle.hl_syntax.specs.declared.kinds.HlType.TheOpen.{HlType-F}
use Rattle.hl_syntax.specs.declared.kinds.HlType.TheVariants as kind
use Rattle.hl_syntax.specs.declared.kinds.HlType.TheViews.{out-HlType}
use Rattle.hl_syntax.specs.declared.kinds.TypedName.{TypedName}
use Rattle.hl_syntax.specs.declared.tree.Pattern.{Pattern}
use Rattle.simplicity.specs.Canon.{Declared}
use Rattle.simplicity.specs.Makes.{pair, tuple, witness}
use Rattle.simplicity.specs.Types.{Value}
use Rattle.simplicityhl.specs.Kinds as kinds
use Rattle.simplicityhl.specs.Kinds.{IsSound, is_sound, bound_level, is_bound}
use Rattle.simplicityhl.specs.Tokens.{decimal_value}
use Rattle.hl_meaning.proofs.Forms.{mean-Let, mean-Plain, mean-Block, mean-Match, mean-Tuple, mean-Array, mean-List, mean-Assert, mean-Dbg, mean-Panic, mean-Jet, mean-Witness, mean-Value, mean-Into, mean-Unwrap, mean-UnwrapLeft, mean-UnwrapRight, mean-IsNone, mean-Left, mean-Right, mean-Some, mean-Nothing, mean-True, mean-False, mean-Literal, mean-Call, mean-Name, mean-Fold, mean-ArrayFold, mean-ForWhile, arm-side, arm-body}
use Rattle.hl_meaning.specs.Answer.{and_then, known, shaped}
use Rattle.hl_meaning.specs.Jets.{jet_answer}
use Rattle.hl_meaning.specs.Loops.{folded, counted, is_counter_width}
use Rattle.hl_meaning.specs.Mean.{Function, Meaning, ArmMeaning, mean, mean_arm, mean_statement, matched, block_of, all_in, converted, number_at, items_in_list, items_in_array, counter_width}
use Rattle.hl_meaning.specs.Scopes.{Binding, meant}
use Rattle.hl_meaning.specs.Values.{encoded}
use Rattle.hl_rules.specs.Exprs.{param_types, jet_named, jet_arguments, jet_result}
use Rattle.jets.specs.Jet.{Row}
use Rattle.hl_rules.specs.Places.{Scope, variable_type}
use Rattle.hl_rules.specs.Same.{unit_type}
use Rattle.hl_typing.proofs.Same.{both_true}
use Rattle.hl_typing.proofs.Sound.{opened_sound}
use Rattle.hl_typing.specs.Patterns.{BindsOnce}
use Rattle.hl_typing.specs.Typing as rule
use Rattle.hl_typing.specs.Typing.{Around, IsCalled, Typed, Judged, FormAt, ExprAt, ExprsAt, BlockAt, Sides}
use Rattle.hl_terms.proofs.Forms.{term-Let, term-Plain, term-arm, term-Block, term-Match, term-Tuple, term-Array, term-List, term-Assert, term-Dbg, term-Panic, term-Jet, term-Witness, term-Value, term-Into, term-Unwrap, term-UnwrapLeft, term-UnwrapRight, term-IsNone, term-Left, term-Right, term-Some, term-Nothing, term-True, term-False, term-Literal, term-Call, term-Name, term-Fold, term-ArrayFold, term-ForWhile}
use Rattle.hl_terms.specs.Paths.{witness_term}
use Rattle.hl_terms.specs.Shapes.{Shape, Both, kind_of, variables_of, witnesses_of, pattern_shape}
use Rattle.hl_terms.specs.Translated.{Expansions, FunctionTerm, Translator, StatementTranslator, ArmTranslator, translated, statement_translated, arm_translated, block_term, each_in, match_term, side_shape, called, counting, witness_or, witness_number}
use Rattle.hl_term_laws.specs.Renders.{Renders, RendersCall, JetsRendered, LoopsRendered, Recodes}
use Rattle.hl_term_laws.proofs.Bound.{pattern_holds}
use Rattle.hl_term_laws.proofs.Called.{Called, width_there}
use Rattle.hl_term_laws.proofs.Constructs.{right_as, name_right, literal_right, true_right, false_right, panic_right, nothing_right, some_right, left_right, right_right, assert_right, unwrap_right, unwrap_left_right, unwrap_right_right, tuple_right, is_none_right, array_right, into_right, over_right, two_right, called_right, let_right, plain_right, empty_right, match_left_right, match_right_left}
use Rattle.hl_term_laws.proofs.Listed.{listed_right}
use Rattle.hl_term_laws.proofs.Matches.{Ordered, left_first, right_first, taken, left_side}
use Rattle.hl_term_laws.proofs.Params.{value_right}
use Rattle.hl_term_laws.proofs.Parts.{AreRendered}
use Rattle.hl_typing.proofs.WordWidths.{word_width}
use Rattle.hl_term_laws.proofs.Widths.{bound_power}

-- what a body is typed, evaluated and translated in: functions that are rendered, and witnesses of which the scope binds these
pub record Setting : Type 0 where
  pub expansions : Expansions
  pub around : Around
  pub functions : List Function
  pub terms : List FunctionTerm
  pub witnesses : List TypedName
  pub bound : List TypedName
  pub given : List Binding
  pub w : List Value
  pub jets : JetsRendered expansions
  pub loops : LoopsRendered expansions
  pub recodes : Recodes
  pub calls : (word : List ℕ) (f : TypedFunction) → IsCalled around word f → Called w functions terms word f
  pub leaf : (word : List ℕ) (k : HlType) (shape : Shape) → witnesses_of shape ≡ bound → variable_type around.witnesses word ≡ Some k →
      Renders around.witnesses given w shape k (λ values. known (meant word given)) (witness_or (witness_term word shape) (witness (kind_of shape) (kinds.form k) (witness_number witnesses word)))

some_core : (o : Option Value) → IsSome o → (c : Value) × (o ≡ Some c)
some_core (Some c) h = (c, refl)
some_core None h = absurd (cc)

each_length : (ts : List Translator) (shape : Shape) → length (each_in ts shape) ≡ length ts
each_length [] shape = refl
each_length (t ∷ ts) shape = ap suc (each_length ts shape)

module _ (s : Setting) where
  abbrev run : TypedExpr → Meaning
  run e = mean s.functions s.given e

  abbrev term : TypedExpr → Translator
  term e = translated s.expansions s.terms s.witnesses e

  abbrev run_statement : TypedStatement → Meaning → Meaning
  run_statement t = mean_statement s.functions s.given t

  abbrev statement_term : TypedStatement → StatementTranslator
  statement_term t = statement_translated s.expansions s.terms s.witnesses t

  abbrev pub Rendered : Shape → HlType → Meaning → Declared → Type 0
  Rendered shape k m t = Renders s.around.witnesses s.given s.w shape k m t

  -- a shape that holds the variables of a scope, and of the witnesses those that are bound
  pub record Over (scope : Scope) (shape : Shape) : Type 0 where
    pub names : variables_of shape ≡ scope
    pub bare : witnesses_of shape ≡ s.bound

  abbrev Parts : Shape → List HlType → List TypedExpr → Type 0
  Parts shape ks es = AreRendered s.around.witnesses s.given s.w shape ks (map run es) (each_in (map term es) shape)

  abbrev pub Claim : Judged → Type 0
  Claim (FormAt scope k f) = IsSound k → (e : TypedExpr) → e.kind ≡ k → e.form ≡ f → (shape : Shape) → Over scope shape → Rendered shape k (run e) (term e shape)
  Claim (ExprAt scope k e) = IsSound k × ((shape : Shape) → Over scope shape → Rendered shape k (run e) (term e shape))
  Claim (ExprsAt scope ks es) = (shape : Shape) → Over scope shape → Parts shape ks es
  Claim (BlockAt scope k ss last) = (shape : Shape) → Over scope shape → Rendered shape k (block_of (map run_statement ss) (option_map run last)) (block_term (map statement_term ss) (option_map term last) shape)

  -- what the form of an expression means and becomes is what the expression does
  by_form : (shape : Shape) (k : HlType) (e : TypedExpr) (m : Meaning) (t : Declared) → ((values : List Binding) → run e values ≡ m values) → term e shape ≡ t → Rendered shape k m t → Rendered shape k (run e) (term e shape)
  by_form shape k e m t same is r = right_as s.around.witnesses s.given s.w shape k m (run e) t (term e shape) same is r

  at_type : (shape : Shape) (k l : HlType) (m : Meaning) (t : Declared) → k ≡ l → Rendered shape k m t → Rendered shape l m t
  at_type shape k l m t is r = subst (λ j. Rendered shape j m t) is r

  -- the shape of what is bound before a shape
  bound_over : (new : Shape) (names scope : Scope) (shape : Shape) → variables_of new ≡ names → witnesses_of new ≡ [] → Over scope shape → Over (names ++ scope) (Both new shape)
  bound_over new names scope shape is bare over = record {
    names = ap (λ l. l ++ variables_of shape) is ∙ ap (λ l. names ++ l) over.names;
    bare = ap (λ l. l ++ witnesses_of shape) bare ∙ over.bare;
  }

  -- matches

  abbrev arm_meaning : TypedArm → ArmMeaning
  arm_meaning a = record { side = a.side; body = run a.body }

  abbrev arm_maker : TypedArm → ArmTranslator
  arm_maker a = record { side = a.side; body = term a.body }

  arm_means : (a : TypedArm) → mean_arm s.functions s.given a ≡ arm_meaning a
  arm_means a =
      ap (λ (x : TypedSide). let arm : ArmMeaning = record { side = x; body = (mean_arm s.functions s.given a).body } in arm) (arm-side s.functions s.given a)
      ∙ ap (λ (m : Meaning). let arm : ArmMeaning = record { side = a.side; body = m } in arm) (arm-body s.functions s.given a)

  two_mean : (a b : TypedArm) → map (mean_arm s.functions s.given) (a ∷ b ∷ []) ≡ arm_meaning a ∷ arm_meaning b ∷ []
  two_mean a b = ap (λ m. m ∷ mean_arm s.functions s.given b ∷ []) (arm_means a) ∙ ap (λ m. arm_meaning a ∷ m ∷ []) (arm_means b)

  two_made : (a b : TypedArm) → map (arm_translated s.expansions s.terms s.witnesses) (a ∷ b ∷ []) ≡ arm_maker a ∷ arm_maker b ∷ []
  two_made a b =
      ap (λ m. m ∷ arm_translated s.expansions s.terms s.witnesses b ∷ []) (term-arm s.expansions s.terms s.witnesses a) ∙ ap (λ m. arm_maker a ∷ m ∷ []) (term-arm s.expansions s.terms s.witnesses b)

  match_made : (e part : TypedExpr) (k : HlType) (one two : TypedArm) → e.kind ≡ k → e.form ≡ typed.Match part (one ∷ two ∷ []) → (shape : Shape) → term e shape ≡ match_term (term part shape) (arm_maker one ∷ arm_maker two ∷ []) k shape
  match_made e part k one two same is shape =
      term-Match s.expansions s.terms s.witnesses e k same part (one ∷ two ∷ []) is shape ∙ ap (λ arms. match_term (term part shape) arms k shape) (two_made one two)

  match_meant : (e part : TypedExpr) (one two : TypedArm) → e.form ≡ typed.Match part (one ∷ two ∷ []) → (values : List Binding) →
      run e values ≡ and_then (run part values) (λ v. matched (arm_meaning one ∷ arm_meaning two ∷ []) (out-HlValue v) values)
  match_meant e part one two is values =
      mean-Match s.functions s.given e part (one ∷ two ∷ []) is values ∙ ap (λ arms. and_then (run part values) (λ v. matched arms (out-HlValue v) values)) (two_mean one two)

  matched_by : (shape : Shape) (l k : HlType) (e part : TypedExpr) (one two : TypedArm) → e.kind ≡ k → e.form ≡ typed.Match part (one ∷ two ∷ []) → Ordered (out-HlType l) one.side two.side →
      Rendered shape l (run part) (term part shape) → Rendered (Both (side_shape one.side) shape) k (run one.body) (term one.body (Both (side_shape one.side) shape)) →
      Rendered (Both (side_shape two.side) shape) k (run two.body) (term two.body (Both (side_shape two.side) shape)) → Rendered shape k (run e) (term e shape)
  matched_by shape l k e part one two same is (left_first fits) r o p =
      let sides = left_side (out-HlType l) one.side two.side fits in
      by_form shape k e _ _ (match_meant e part one two is) (match_made e part k one two same is shape ∙ (rw sides.0 refl))
      (match_left_right s.around.witnesses s.given s.w one.side two.side l k fits shape (run part) (run one.body) (run two.body) (term part shape)
      (term one.body (Both (side_shape one.side) shape)) (term two.body (Both (side_shape two.side) shape)) r o p)
  matched_by shape l k e part one two same is (right_first fits) r o p =
      let sides = left_side (out-HlType l) two.side one.side fits in
      by_form shape k e _ _ (match_meant e part one two is) (match_made e part k one two same is shape ∙ (rw sides.1 refl))
      (match_right_left s.around.witnesses s.given s.w two.side one.side l k fits shape (run part) (run two.body) (run one.body) (term part shape)
      (term two.body (Both (side_shape two.side) shape)) (term one.body (Both (side_shape one.side) shape)) r p o)

  match_renders : (scope : Scope) (l k : HlType) (e part : TypedExpr) (one two : TypedArm) (first second : Scope) → e.kind ≡ k → e.form ≡ typed.Match part (one ∷ two ∷ []) →
      Sides l one.side first two.side second → Claim (ExprAt scope l part) → Claim (ExprAt (first ++ scope) k one.body) → Claim (ExprAt (second ++ scope) k two.body) → (shape : Shape) → Over scope shape →
      Rendered shape k (run e) (term e shape)
  match_renders scope l k e part one two first second same is are h i j shape over =
      let t = taken l one.side two.side first second are in
      matched_by shape l k e part one two same is t.ordered (h.1 shape over)
      (i.1 (Both (side_shape one.side) shape) (bound_over (side_shape one.side) first scope shape t.first.names_are t.first.bare over))
      (j.1 (Both (side_shape two.side) shape) (bound_over (side_shape two.side) second scope shape t.second.names_are t.second.bare over))

  -- lists

  list_renders : (scope : Scope) (item : HlType) (bound : ℕ) (es : List TypedExpr) (e : TypedExpr) → IsSound (kind.List item bound) → length es < bound → e.kind ≡ kind.List item bound → e.form ≡ typed.List es → (shape : Shape) →
      Parts shape (replicate (length es) item) es → Rendered shape (kind.List item bound) (run e) (term e shape)
  list_renders scope item bound es e sound few same is shape h =
      let k : HlType = kind.List item bound in
      let both = both_true (is_sound item) (is_bound bound) (opened_sound (HlType-F.List item bound) k (kind.outs-List item bound) sound) in
      let short : length (each_in (map term es) shape) < 2 ^ suc (bound_level bound) = omega (arith, few, bound_power bound both.1, each_length (map term es) shape, length-map es term) in
      by_form shape k e _ _ (mean-List s.functions s.given e es is) (term-List s.expansions s.terms s.witnesses e k same es is shape)
      (listed_right s.around.witnesses s.given s.w shape k item bound (length es) (map run es) (each_in (map term es) shape) (kind.outs-List item bound) short h)

  -- calls and loops

  jet_renders : (word : List ℕ) (row : Row) (e : TypedExpr) (es : List TypedExpr) → jet_named word ≡ Some row → e.kind ≡ jet_result row → e.form ≡ typed.Jet word es → (shape : Shape) → Parts shape (jet_arguments row) es →
      Rendered shape (jet_result row) (run e) (term e shape)
  jet_renders word row e es found same is shape h =
      let j = s.jets s.w word row found in
      by_form shape (jet_result row) e _ _ (mean-Jet s.functions s.given e word es is)
      (term-Jet s.expansions s.terms s.witnesses e (jet_result row) same word es is shape ∙ ap (λ o. called o (tuple (kind_of shape) (each_in (map term es) shape)) (jet_result row)) j.is)
      (called_right s.around.witnesses s.given s.w shape (jet_result row) (jet_arguments row) (map run es) (each_in (map term es) shape) (jet_answer word) j.term h j.renders.from j.renders.to j.renders.typed j.renders.runs)

  call_renders : (word : List ℕ) (f : TypedFunction) (e : TypedExpr) (es : List TypedExpr) → IsCalled s.around word f → e.kind ≡ f.result → e.form ≡ typed.Call word es → (shape : Shape) → Parts shape (param_types f) es →
      Rendered shape f.result (run e) (term e shape)
  call_renders word f e es found same is shape h =
      let c = s.calls word f found in
      by_form shape f.result e _ _
      (λ values. mean-Call s.functions s.given e word es is values ∙ ap (λ o. and_then (all_in (map run es) values) (λ vs. shaped o (λ g. g.run vs))) c.there)
      (term-Call s.expansions s.terms s.witnesses e f.result same word es is shape
      ∙ ap (λ o. called (option_map (λ (t : FunctionTerm). t.term) o) (tuple (kind_of shape) (each_in (map term es) shape)) f.result) c.stands)
      (called_right s.around.witnesses s.given s.w shape f.result (param_types f) (map run es) (each_in (map term es) shape) c.run.run c.made.term h c.renders.from c.renders.to c.renders.typed c.renders.runs)

  fold_renders : (word count : List ℕ) (f : TypedFunction) (item : HlType) (e items start : TypedExpr) → IsCalled s.around word f → param_types f ≡ item ∷ f.result ∷ [] → IsTrue (is_bound (decimal_value count)) → e.kind ≡ f.result →
      e.form ≡ typed.Fold word count items start → (shape : Shape) → Rendered shape (kind.List item (decimal_value count)) (run items) (term items shape) → Rendered shape f.result (run start) (term start shape) →
      Rendered shape f.result (run e) (term e shape)
  fold_renders word count f item e items start found are bounds same is shape r o =
      let c = s.calls word f found in
      let n = decimal_value count in
      let l = s.loops.lists s.w item f.result n c.run.run c.made.term (subst (λ ks. RendersCall s.w ks f.result c.run.run c.made.term) are c.renders) bounds in
      by_form shape f.result e _ _
      (λ values. mean-Fold s.functions s.given e word count items start is values
      ∙ ap (λ o. shaped o (λ g. and_then (run items values) (λ v. and_then (known (items_in_list (out-HlValue v))) (λ found. and_then (run start values) (folded g.run found))))) c.there)
      (term-Fold s.expansions s.terms s.witnesses e f.result same word count items start is shape
      ∙ ap (λ o. called (option_map (λ (t : FunctionTerm). s.expansions.list_fold t.term n) o) (pair (term items shape) (term start shape)) f.result) c.stands)
      (over_right s.around.witnesses s.given s.w shape (kind.List item n) f.result f.result (run items) (run start) (term items shape) (term start shape) (s.expansions.list_fold c.made.term n) items_in_list c.run.run r o l)

  array_fold_renders : (word count : List ℕ) (f : TypedFunction) (item : HlType) (e items start : TypedExpr) → IsCalled s.around word f → param_types f ≡ item ∷ f.result ∷ [] → e.kind ≡ f.result →
      e.form ≡ typed.ArrayFold word count items start → (shape : Shape) → Rendered shape (kind.Array item (decimal_value count)) (run items) (term items shape) → Rendered shape f.result (run start) (term start shape) →
      Rendered shape f.result (run e) (term e shape)
  array_fold_renders word count f item e items start found are same is shape r o =
      let c = s.calls word f found in
      let n = decimal_value count in
      let l = s.loops.arrays s.w item f.result n c.run.run c.made.term (subst (λ ks. RendersCall s.w ks f.result c.run.run c.made.term) are c.renders) in
      by_form shape f.result e _ _
      (λ values. mean-ArrayFold s.functions s.given e word count items start is values
      ∙ ap (λ o. shaped o (λ g. and_then (run items values) (λ v. and_then (known (items_in_array (out-HlValue v))) (λ found. and_then (run start values) (folded g.run found))))) c.there)
      (term-ArrayFold s.expansions s.terms s.witnesses e f.result same word count items start is shape
      ∙ ap (λ o. called (option_map (λ (t : FunctionTerm). s.expansions.array_fold t.term n) o) (pair (term items shape) (term start shape)) f.result) c.stands)
      (over_right s.around.witnesses s.given s.w shape (kind.Array item n) f.result f.result (run items) (run start) (term items shape) (term start shape) (s.expansions.array_fold c.made.term n) items_in_array c.run.run r o l)

  while_renders : (word : List ℕ) (f : TypedFunction) (total context end : HlType) (width : ℕ) (e start given : TypedExpr) → IsCalled s.around word f → param_types f ≡ total ∷ context ∷ kind.UInt width ∷ [] → IsTrue (is_counter_width width) →
      f.result ≡ kind.Either end total → e.kind ≡ f.result → e.form ≡ typed.ForWhile word start given → (shape : Shape) → Rendered shape total (run start) (term start shape) → Rendered shape context (run given) (term given shape) →
      Rendered shape f.result (run e) (term e shape)
  while_renders word f total context end width e start given found are counts ends same is shape r o =
      let c = s.calls word f found in
      let renders = subst (λ k. RendersCall s.w (total ∷ context ∷ kind.UInt width ∷ []) k c.run.run c.made.term) ends (subst (λ ks. RendersCall s.w ks f.result c.run.run c.made.term) are c.renders) in
      let l = s.loops.whiles s.w total context end width c.run.run c.made.term renders counts in
      let wide = width_there f.params total context width are counts in
      let meant_wide : counter_width c.run.params ≡ Some width = ap counter_width c.run_params ∙ wide in
      let made_wide : counter_width c.made.params ≡ Some width = ap counter_width c.made_params ∙ wide in
      let whole : Meaning = λ values. and_then (run start values) (λ made. and_then (run given values) (λ held. counted c.run.run width held (2 ^ width) 0 made)) in
      by_form shape f.result e _ _
      (λ values. mean-ForWhile s.functions s.given e word start given is values
      ∙ ap (λ o. shaped o (λ g. and_then (known (counter_width g.params)) (λ wide. and_then (run start values) (λ made. and_then (run given values) (λ held. counted g.run wide held (2 ^ wide) 0 made))))) c.there
      ∙ ap (λ o. and_then (known o) (λ wide. and_then (run start values) (λ made. and_then (run given values) (λ held. counted c.run.run wide held (2 ^ wide) 0 made)))) meant_wide)
      (term-ForWhile s.expansions s.terms s.witnesses e f.result same word start given is shape
      ∙ ap (λ o. called (option_and_then (counting s.expansions s.terms s.witnesses) o) (pair (term start shape) (term given shape)) f.result) c.stands
      ∙ ap (λ o. called (option_map (s.expansions.for_while c.made.term) o) (pair (term start shape) (term given shape)) f.result) made_wide)
      (at_type shape (kind.Either end total) f.result _ _ (sym ends)
      (subst (λ k. Rendered shape (kind.Either end total) whole (called (Some (s.expansions.for_while c.made.term width)) (pair (term start shape) (term given shape)) k)) (sym ends)
      (two_right s.around.witnesses s.given s.w shape total context (kind.Either end total) (run start) (run given) (term start shape) (term given shape) (s.expansions.for_while c.made.term width)
      (λ made held. counted c.run.run width held (2 ^ width) 0 made) r o l)))

  -- blocks

  let_renders : (scope : Scope) (k l : HlType) (p : Pattern) (names : Scope) (e : TypedExpr) (ss : List TypedStatement) (last : Option TypedExpr) → BindsOnce l p names → Claim (ExprAt scope l e) →
      Claim (BlockAt (names ++ scope) k ss last) → Claim (BlockAt scope k (statements.Let p l e ∷ ss) last)
  let_renders scope k l p names e ss last binds h i shape over =
      let new = pattern_holds l p names binds.binds in
      let after = block_of (map run_statement ss) (option_map run last) in
      let rest = block_term (map statement_term ss) (option_map term last) in
      right_as s.around.witnesses s.given s.w shape k _ _ _ _ (mean-Let s.functions s.given p l e after)
      (ap (λ (t : StatementTranslator). block_term (t ∷ map statement_term ss) (option_map term last) shape) (term-Let s.expansions s.terms s.witnesses p l e))
      (let_right s.around.witnesses s.given s.w shape p l k (run e) after (term e shape) (rest (Both (pattern_shape p l) shape)) new.kind_is (h.1 shape over)
      (i (Both (pattern_shape p l) shape) (bound_over (pattern_shape p l) names scope shape new.names_are new.bare over)))

  plain_renders : (scope : Scope) (k : HlType) (e : TypedExpr) (ss : List TypedStatement) (last : Option TypedExpr) → Claim (ExprAt scope unit_type e) → Claim (BlockAt scope k ss last) →
      Claim (BlockAt scope k (statements.Plain e ∷ ss) last)
  plain_renders scope k e ss last h i shape over =
      let after = block_of (map run_statement ss) (option_map run last) in
      let rest = block_term (map statement_term ss) (option_map term last) in
      right_as s.around.witnesses s.given s.w shape k _ _ _ _ (mean-Plain s.functions s.given e after)
      (ap (λ (t : StatementTranslator). block_term (t ∷ map statement_term ss) (option_map term last) shape) (term-Plain s.expansions s.terms s.witnesses e))
      (plain_right s.around.witnesses s.given s.w shape unit_type k (run e) after (term e shape) (rest shape) (h.1 shape over) (i shape over))

  block_made : (e : TypedExpr) (k : HlType) (ss : List TypedStatement) (last : Option TypedExpr) → e.kind ≡ k → e.form ≡ typed.Block ss last → (shape : Shape) → term e shape ≡ block_term (map statement_term ss) (option_map term last) shape
  block_made e k ss last same is shape = term-Block s.expansions s.terms s.witnesses e k same ss last is shape

  -- each rule keeps the claim
  pub renders : (j : Judged) → Typed s.around j → Claim j
  renders j (rule.expr scope k e is sound h) = (sound, renders (FormAt scope k e.form) h sound e is refl)
  renders j (rule.no_more scope) = λ shape over. tt
  renders j (rule.one_more scope k ks e es h i) = λ shape over. ((renders (ExprAt scope k e) h).1 shape over, renders (ExprsAt scope ks es) i shape over)
  renders j (rule.name scope k word found) = λ sound e same is shape over.
      by_form shape k e _ _ (mean-Name s.functions s.given e word is) (term-Name s.expansions s.terms s.witnesses e k same word is shape)
      (name_right s.around.witnesses s.given s.w shape k word (ap (λ l. variable_type l word) over.names ∙ found))
  renders j (rule.witness scope k word found) = λ sound e same is shape over.
      by_form shape k e _ _ (mean-Witness s.functions s.given e word is) (term-Witness s.expansions s.terms s.witnesses e k same word is shape) (s.leaf word k shape over.bare found)
  renders j (rule.value scope k v fits) = λ sound e same is shape over.
      let c = some_core (encoded v k) fits in
      by_form shape k e _ _ (mean-Value s.functions s.given e v is) (term-Value s.expansions s.terms s.witnesses e k same v is shape) (value_right s.around.witnesses s.given s.w shape v k c.0 c.1)
  renders j (rule.literal scope width word less) = λ sound e same is shape over.
      let k : HlType = kind.UInt width in
      by_form shape k e _ _ (λ values. mean-Literal s.functions s.given e word is values ∙ ap (λ l. number_at (out-HlType l) word) same) (term-Literal s.expansions s.terms s.witnesses e k same word is shape)
      (literal_right s.around.witnesses s.given s.w shape k width word (kind.outs-UInt width) (word_width width (opened_sound (HlType-F.UInt width) k (kind.outs-UInt width) sound)) less)
  renders j (rule.truth scope) = λ sound e same is shape over.
      by_form shape kind.Bool e _ _ (mean-True s.functions s.given e is) (term-True s.expansions s.terms s.witnesses e kind.Bool same is shape) (true_right s.around.witnesses s.given s.w shape kind.Bool kind.outs-Bool)
  renders j (rule.falsehood scope) = λ sound e same is shape over.
      by_form shape kind.Bool e _ _ (mean-False s.functions s.given e is) (term-False s.expansions s.terms s.witnesses e kind.Bool same is shape) (false_right s.around.witnesses s.given s.w shape kind.Bool kind.outs-Bool)
  renders j (rule.tuple scope ks es h) = λ sound e same is shape over.
      let k : HlType = kind.Tuple ks in
      by_form shape k e _ _ (mean-Tuple s.functions s.given e es is) (term-Tuple s.expansions s.terms s.witnesses e k same es is shape)
      (tuple_right s.around.witnesses s.given s.w shape k ks (map run es) (each_in (map term es) shape) (kind.outs-Tuple ks) (renders (ExprsAt scope ks es) h shape over))
  renders j (rule.array scope item count es h) = λ sound e same is shape over.
      let k : HlType = kind.Array item count in
      by_form shape k e _ _ (mean-Array s.functions s.given e es is) (term-Array s.expansions s.terms s.witnesses e k same es is shape)
      (array_right s.around.witnesses s.given s.w shape k item count (map run es) (each_in (map term es) shape) (kind.outs-Array item count) (renders (ExprsAt scope (replicate count item) es) h shape over))
  renders j (rule.list scope item bound es few h) = λ sound e same is shape over.
      list_renders scope item bound es e sound few same is shape (renders (ExprsAt scope (replicate (length es) item) es) h shape over)
  renders j (rule.nothing scope item) = λ sound e same is shape over.
      let k : HlType = kind.Option item in
      by_form shape k e _ _ (mean-Nothing s.functions s.given e is) (term-Nothing s.expansions s.terms s.witnesses e k same is shape) (nothing_right s.around.witnesses s.given s.w shape k item (kind.outs-Option item))
  renders j (rule.some scope item part h) = λ sound e same is shape over.
      let k : HlType = kind.Option item in
      by_form shape k e _ _ (mean-Some s.functions s.given e part is) (term-Some s.expansions s.terms s.witnesses e k same part is shape)
      (some_right s.around.witnesses s.given s.w shape k item (run part) (term part shape) (kind.outs-Option item) ((renders (ExprAt scope item part) h).1 shape over))
  renders j (rule.left scope l r part h) = λ sound e same is shape over.
      let k : HlType = kind.Either l r in
      by_form shape k e _ _ (mean-Left s.functions s.given e part is) (term-Left s.expansions s.terms s.witnesses e k same part is shape)
      (left_right s.around.witnesses s.given s.w shape k l r (run part) (term part shape) (kind.outs-Either l r) ((renders (ExprAt scope l part) h).1 shape over))
  renders j (rule.right scope l r part h) = λ sound e same is shape over.
      let k : HlType = kind.Either l r in
      by_form shape k e _ _ (mean-Right s.functions s.given e part is) (term-Right s.expansions s.terms s.witnesses e k same part is shape)
      (right_right s.around.witnesses s.given s.w shape k r l (run part) (term part shape) (kind.outs-Either l r) ((renders (ExprAt scope r part) h).1 shape over))
  renders j (rule.panic scope k) = λ sound e same is shape over.
      by_form shape k e _ _ (mean-Panic s.functions s.given e is) (term-Panic s.expansions s.terms s.witnesses e k same is shape) (panic_right s.around.witnesses s.given s.w shape k)
  renders j (rule.assert scope part h) = λ sound e same is shape over.
      by_form shape unit_type e _ _ (mean-Assert s.functions s.given e part is) (term-Assert s.expansions s.terms s.witnesses e unit_type same part is shape)
      (assert_right s.around.witnesses s.given s.w shape unit_type kind.Bool (run part) (term part shape) (kind.outs-Tuple []) kind.outs-Bool ((renders (ExprAt scope kind.Bool part) h).1 shape over))
  renders j (rule.dbg scope k part h) = λ sound e same is shape over.
      by_form shape k e _ _ (mean-Dbg s.functions s.given e part is) (term-Dbg s.expansions s.terms s.witnesses e k same part is shape) ((renders (ExprAt scope k part) h).1 shape over)
  renders j (rule.unwrap scope k part h) = λ sound e same is shape over.
      let l : HlType = kind.Option k in
      by_form shape k e _ _ (mean-Unwrap s.functions s.given e part is) (term-Unwrap s.expansions s.terms s.witnesses e k same part is shape)
      (unwrap_right s.around.witnesses s.given s.w shape k l (run part) (term part shape) (kind.outs-Option k) ((renders (ExprAt scope l part) h).1 shape over))
  renders j (rule.unwrap_left scope k other part h) = λ sound e same is shape over.
      let l : HlType = kind.Either k other in
      by_form shape k e _ _ (mean-UnwrapLeft s.functions s.given e other part is) (term-UnwrapLeft s.expansions s.terms s.witnesses e k same other part is shape)
      (unwrap_left_right s.around.witnesses s.given s.w shape k other l (run part) (term part shape) (kind.outs-Either k other) ((renders (ExprAt scope l part) h).1 shape over))
  renders j (rule.unwrap_right scope k other part h) = λ sound e same is shape over.
      let l : HlType = kind.Either other k in
      by_form shape k e _ _ (mean-UnwrapRight s.functions s.given e other part is) (term-UnwrapRight s.expansions s.terms s.witnesses e k same other part is shape)
      (unwrap_right_right s.around.witnesses s.given s.w shape k other l (run part) (term part shape) (kind.outs-Either other k) ((renders (ExprAt scope l part) h).1 shape over))
  renders j (rule.is_none scope item part h) = λ sound e same is shape over.
      let l : HlType = kind.Option item in
      by_form shape kind.Bool e _ _ (mean-IsNone s.functions s.given e item part is) (term-IsNone s.expansions s.terms s.witnesses e kind.Bool same item part is shape)
      (is_none_right s.around.witnesses s.given s.w shape kind.Bool item l (run part) (term part shape) kind.outs-Bool (kind.outs-Option item) ((renders (ExprAt scope l part) h).1 shape over))
  renders j (rule.matched scope l k part one two first second are h i o) = λ sound e same is shape over.
      match_renders scope l k e part one two first second same is are (renders (ExprAt scope l part) h) (renders (ExprAt (first ++ scope) k one.body) i) (renders (ExprAt (second ++ scope) k two.body) o) shape over
  renders j (rule.into scope source k part alike h) = λ sound e same is shape over.
      by_form shape k e _ _ (λ values. mean-Into s.functions s.given e source part is values ∙ ap (λ l. and_then (run part values) (converted source l)) same) (term-Into s.expansions s.terms s.witnesses e k same source part is shape)
      (into_right s.around.witnesses s.given s.w shape source k (run part) (term part shape) s.recodes alike ((renders (ExprAt scope source part) h).1 shape over))
  renders j (rule.jet scope word row es found h) = λ sound e same is shape over. jet_renders word row e es found same is shape (renders (ExprsAt scope (jet_arguments row) es) h shape over)
  renders j (rule.call scope word f es found h) = λ sound e same is shape over. call_renders word f e es found same is shape (renders (ExprsAt scope (param_types f) es) h shape over)
  renders j (rule.fold scope word count f item items start found are bounds h i) = λ sound e same is shape over.
      fold_renders word count f item e items start found are bounds same is shape ((renders (ExprAt scope (kind.List item (decimal_value count)) items) h).1 shape over) ((renders (ExprAt scope f.result start) i).1 shape over)
  renders j (rule.array_fold scope word count f item items start found are h i) = λ sound e same is shape over.
      array_fold_renders word count f item e items start found are same is shape ((renders (ExprAt scope (kind.Array item (decimal_value count)) items) h).1 shape over) ((renders (ExprAt scope f.result start) i).1 shape over)
  renders j (rule.for_while scope word f total context end width start given found are counts ends h i) = λ sound e same is shape over.
      while_renders word f total context end width e start given found are counts ends same is shape ((renders (ExprAt scope total start) h).1 shape over) ((renders (ExprAt scope context given) i).1 shape over)
  renders j (rule.block scope k ss last h) = λ sound e same is shape over.
      by_form shape k e _ _ (mean-Block s.functions s.given e ss last is) (block_made e k ss last same is shape) (renders (BlockAt scope k ss last) h shape over)
  renders j (rule.no_last scope) = λ shape over. empty_right s.around.witnesses s.given s.w shape unit_type (kind.outs-Tuple [])
  renders j (rule.last scope k e h) = (renders (ExprAt scope k e) h).1
  renders j (rule.binding scope k l p names e ss last binds h i) = let_renders scope k l p names e ss last binds (renders (ExprAt scope l e) h) (renders (BlockAt (names ++ scope) k ss last) i)
  renders j (rule.plain scope k e ss last h i) = plain_renders scope k e ss last (renders (ExprAt scope unit_type e) h) (renders (BlockAt scope k ss last) i)
