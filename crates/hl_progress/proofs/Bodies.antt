-- What is typed by the rules has an answer of its type in each scope of values.
use Rattle.std.proofs.Common.{◌≡◌, ℕ, zero, suc, ◌<◌, ◌^◌, true, false, ◌++◌, List, [], ◌∷◌, length, map, find, replicate, bytes_eq, Option, option_map, refl, sym, ap, ◌∙◌, subst}
use Rattle.hl_data.specs.declared.typed.TypedArm.{TypedArm}
use Rattle.hl_data.specs.declared.typed.TypedExpr.{TypedExpr}
use Rattle.hl_data.specs.declared.typed.TypedForm.TheVariants as typed
use Rattle.hl_data.specs.declared.typed.TypedFunction.{TypedFunction}
use Rattle.hl_data.specs.declared.typed.TypedSide.{TypedSide}
use Rattle.hl_data.specs.declared.typed.TypedStatement.{TypedStatement}
use Rattle.hl_data.specs.declared.typed.TypedStatement.TheVariants as statements
use Rattle.hl_data.specs.declared.value.HlValue.{HlValue}
use Rattle.hl_data.specs.declared.value.HlValue.TheVariants as value
use Rattle.hl_data.specs.declared.value.HlValue.TheViews.{out-HlValue}
use Rattle.hl_syntax.specs.declared.kinds.HlType.{HlType}
use Rattle.hl_syntax.specs.declared.kinds.HlType.TheOpen.{HlType-F}
use Rattle.hl_syntax.specs.declared.kinds.HlType.TheVariants as kind
use Rattle.hl_syntax.specs.declared.kinds.HlType.TheViews.{out-HlType}
use Rattle.hl_syntax.specs.declared.kinds.TypedName.{TypedName}
use Rattle.hl_syntax.specs.declared.tree.Pattern.{Pattern}
use Rattle.simplicityhl.specs.Kinds as kinds
use Rattle.simplicityhl.specs.Kinds.{IsSound}
use Rattle.simplicityhl.specs.Tokens.{decimal_value}
use Rattle.hl_meaning.proofs.Forms.{mean-Let, mean-Plain, mean-Block, mean-Match, mean-Tuple, mean-Array, mean-List, mean-Assert, mean-Dbg, mean-Panic, mean-Jet, mean-Witness, mean-Value, mean-Into, mean-Unwrap, mean-UnwrapLeft, mean-UnwrapRight, mean-IsNone, mean-Left, mean-Right, mean-Some, mean-Nothing, mean-True, mean-False, mean-Literal, mean-Call, mean-Name, mean-Fold, mean-ArrayFold, mean-ForWhile, arm-side, arm-body}
use Rattle.hl_meaning.specs.Answer.{Answer, and_then, known}
use Rattle.hl_meaning.specs.Literals.{literal_value}
use Rattle.hl_meaning.specs.Mean.{Function, Meaning, ArmMeaning, mean, mean_arm, mean_statement, matched, block_of, all_in, call_of, converted, number_at, items_in_list, items_in_array}
use Rattle.hl_meaning.specs.Scopes as scopes
use Rattle.hl_meaning.specs.Scopes.{Binding, meant}
use Rattle.simplicityhl.specs.Kinds.{is_sound}
use Rattle.hl_rules.specs.Exprs.{param_types, jet_arguments, jet_result}
use Rattle.hl_rules.specs.Places.{Scope}
use Rattle.hl_rules.specs.Same.{unit_type}
use Rattle.hl_jets.proofs.Rows.{jets_answer}
use Rattle.hl_typing.specs.Typing as rule
use Rattle.hl_typing.specs.Patterns.{BindsOnce}
use Rattle.hl_typing.specs.Typing.{Around, IsCalled, Typed, Judged, FormAt, ExprAt, ExprsAt, BlockAt, Sides}
use Rattle.hl_typing.proofs.Every.{Every}
use Rattle.hl_typing.proofs.Same.{both_true}
use Rattle.hl_typing.proofs.Sound.{opened_sound}
use Rattle.hl_meaning.specs.Entries.{IsValueOf}
use Rattle.hl_progress.specs.Held.{Holds, HasAnswer, AreValuesOf}
use Rattle.hl_progress.proofs.Answers.{then_holds, value_then, known_value, shaped_then, unit_fits, asserted_holds, unwrapped_holds, left_holds, right_holds, tested_holds, literal_holds}
use Rattle.hl_progress.proofs.Arms.{sides_hold}
use Rattle.hl_progress.proofs.Bound.{pattern_binds}
use Rattle.hl_progress.proofs.Called.{FunctionsFit, Called, called}
use Rattle.hl_progress.proofs.Converted.{converted_holds}
use Rattle.hl_progress.proofs.Fits.{opened, array_of, list_of, tuple_fits, array_fits, list_fits, some_fits, nothing_fits, left_fits, right_fits, bool_fits}
use Rattle.hl_progress.proofs.Loops.{HasItems, loop_holds, while_holds}
use Rattle.hl_progress.proofs.Scopes.{ScopeFits, HaveValues, Means, scope_join, name_value, witness_value}
use Rattle.hl_typing.proofs.WordWidths.{word_width}

-- what a body is typed and evaluated in: functions that have answers of their types, and values of the witnesses that it may name
pub record Setting : Type 0 where
  pub around : Around
  pub functions : List Function
  pub witness : List Binding
  pub witnesses : List TypedName
  pub fit : FunctionsFit witness witnesses around.functions functions
  pub have : HaveValues witness around.witnesses

-- values of a type that is repeated
each_of : (vs : List HlValue) (item : HlType) (count : ℕ) → AreValuesOf vs (replicate count item) → (length vs ≡ count) × Every (λ v. IsValueOf v item) vs
each_of [] item zero h = (refl, tt)
each_of [] item (suc count) h = absurd h
each_of (v ∷ vs) item zero h = absurd h
each_of (v ∷ vs) item (suc count) h = let rest = each_of vs item count h.1 in (ap suc rest.0, (h.0, rest.1))

module _ (s : Setting) where
  abbrev run : TypedExpr → Meaning
  run e = mean s.functions s.witness e

  abbrev pub Answers : Scope → HlType → Meaning → Type 0
  Answers scope k m = (values : scopes.Scope) → ScopeFits scope values → HasAnswer k (m values)

  -- in each scope of values of these types there is an answer of the type
  abbrev pub Claim : Judged → Type 0
  Claim (FormAt scope k f) = IsSound k → (e : TypedExpr) → e.kind ≡ k → e.form ≡ f → Answers scope k (run e)
  Claim (ExprAt scope k e) = IsSound k × Answers scope k (run e)
  Claim (ExprsAt scope ks es) = (values : scopes.Scope) → ScopeFits scope values → Holds (λ vs. AreValuesOf vs ks) (all_in (map run es) values)
  Claim (BlockAt scope k ss last) = Answers scope k (block_of (map (mean_statement s.functions s.witness) ss) (option_map run last))

  more_hold : (scope : Scope) (k : HlType) (ks : List HlType) (e : TypedExpr) (es : List TypedExpr) → Claim (ExprAt scope k e) → Claim (ExprsAt scope ks es) → Claim (ExprsAt scope (k ∷ ks) (e ∷ es))
  more_hold scope k ks e es h i values fit =
      then_holds (λ v. IsValueOf v k) (λ vs. AreValuesOf vs (k ∷ ks)) (run e values) _ (h.1 values fit)
      (λ v is. then_holds (λ vs. AreValuesOf vs ks) (λ vs. AreValuesOf vs (k ∷ ks)) (all_in (map run es) values) _ (i values fit) (λ vs are. (is, are)))

  -- one part, and then what is made of its value
  after_part : (scope : Scope) (k l : HlType) (e part : TypedExpr) (f : HlValue → Answer HlValue) → Claim (ExprAt scope l part) → ((values : scopes.Scope) → run e values ≡ and_then (run part values) f) →
      ((v : HlValue) → IsValueOf v l → HasAnswer k (f v)) → Answers scope k (run e)
  after_part scope k l e part f h is made values fit = subst (HasAnswer k) (sym (is values)) (value_then l k (run part values) f (h.1 values fit) made)

  -- several parts, and then what is made of their values
  after_parts : (scope : Scope) (k : HlType) (ks : List HlType) (e : TypedExpr) (es : List TypedExpr) (f : List HlValue → Answer HlValue) → Claim (ExprsAt scope ks es) →
      ((values : scopes.Scope) → run e values ≡ and_then (all_in (map run es) values) f) → ((vs : List HlValue) → AreValuesOf vs ks → HasAnswer k (f vs)) → Answers scope k (run e)
  after_parts scope k ks e es f h is made values fit =
      subst (HasAnswer k) (sym (is values)) (then_holds (λ vs. AreValuesOf vs ks) (λ v. IsValueOf v k) (all_in (map run es) values) f (h values fit) made)

  array_holds : (vs : List HlValue) (item : HlType) (count : ℕ) → AreValuesOf vs (replicate count item) → IsValueOf (value.Array vs) (kind.Array item count)
  array_holds vs item count are = let each = each_of vs item count are in array_fits vs (kind.Array item count) item count (kind.outs-Array item count) each.0 each.1

  list_holds : (vs : List HlValue) (item : HlType) (count bound : ℕ) → IsSound (kind.List item bound) → count < bound → AreValuesOf vs (replicate count item) → IsValueOf (value.List vs) (kind.List item bound)
  list_holds vs item count bound sound few are =
      let each = each_of vs item count are in
      let both = both_true (is_sound item) (kinds.is_bound bound) (opened_sound (HlType-F.List item bound) (kind.List item bound) (kind.outs-List item bound) sound) in
      list_fits vs (kind.List item bound) item bound (kind.outs-List item bound) both.1 (subst (λ n. n < bound) (sym each.0) few) each.1

  literal_answers : (width : ℕ) (word : List ℕ) → IsSound (kind.UInt width) → literal_value word < 2 ^ width → HasAnswer (kind.UInt width) (number_at (out-HlType (kind.UInt width)) word)
  literal_answers width word sound less = literal_holds width word (word_width width (opened_sound (HlType-F.UInt width) (kind.UInt width) (kind.outs-UInt width) sound)) less

  name_answers : (k : HlType) (word : List ℕ) (values : scopes.Scope) → Means word values k → HasAnswer k (known (meant word values))
  name_answers k word values m = known_value k (meant word values) m.0 m.1 m.2

  -- matches

  arm_is : (a : TypedArm) → mean_arm s.functions s.witness a ≡ record { side = a.side; body = run a.body }
  arm_is a =
      ap (λ (x : TypedSide). let arm : ArmMeaning = record { side = x; body = (mean_arm s.functions s.witness a).body } in arm) (arm-side s.functions s.witness a)
      ∙ ap (λ (m : Meaning). let arm : ArmMeaning = record { side = a.side; body = m } in arm) (arm-body s.functions s.witness a)

  match_holds : (scope : Scope) (taken k : HlType) (e part : TypedExpr) (one two : TypedArm) (first second : Scope) → e.form ≡ typed.Match part (one ∷ two ∷ []) → Sides taken one.side first two.side second →
      Claim (ExprAt scope taken part) → Claim (ExprAt (first ++ scope) k one.body) → Claim (ExprAt (second ++ scope) k two.body) → Answers scope k (run e)
  match_holds scope taken k e part one two first second is are h i j values fit =
      subst (HasAnswer k) (sym (mean-Match s.functions s.witness e part (one ∷ two ∷ []) is values))
      (value_then taken k (run part values) _ (h.1 values fit) (λ v fits.
      subst (λ x. HasAnswer k (matched (x ∷ mean_arm s.functions s.witness two ∷ []) (out-HlValue v) values)) (sym (arm_is one))
      (subst (λ y. HasAnswer k (matched (record { side = one.side; body = run one.body } ∷ y ∷ []) (out-HlValue v) values)) (sym (arm_is two))
      (sides_hold k one.side two.side first second (run one.body) (run two.body) values taken are
      (λ new bound. i.1 (new ++ values) (scope_join first scope new values bound fit))
      (λ new bound. j.1 (new ++ values) (scope_join second scope new values bound fit)) v fits))))

  -- calls and loops

  known_call : (word : List ℕ) (f : TypedFunction) → IsCalled s.around word f → Called s.functions word f
  known_call word f is = called s.witness s.witnesses s.around s.functions s.fit word f is

  call_holds : (word : List ℕ) (f : TypedFunction) → IsCalled s.around word f → (vs : List HlValue) → AreValuesOf vs (param_types f) → HasAnswer f.result (call_of s.functions s.witness word vs)
  call_holds word f is vs are =
      let c = known_call word f is in shaped_then (λ v. IsValueOf v f.result) (find (λ h. bytes_eq word h.name) s.functions) c.run _ c.there (c.runs vs are)

  list_items : (item : HlType) (bound : ℕ) → HasItems items_in_list (kind.List item bound) item
  list_items item bound v fits =
      let l = list_of (out-HlValue v) item bound (opened v (kind.List item bound) (HlType-F.List item bound) (kind.outs-List item bound) fits) in (l.items, ap items_in_list l.is, l.fit)

  array_items : (item : HlType) (count : ℕ) → HasItems items_in_array (kind.Array item count) item
  array_items item count v fits =
      let l = array_of (out-HlValue v) item count (opened v (kind.Array item count) (HlType-F.Array item count) (kind.outs-Array item count) fits) in (l.items, ap items_in_array l.is, l.fit)

  -- blocks

  let_holds : (scope : Scope) (k l : HlType) (p : Pattern) (names : Scope) (e : TypedExpr) (ss : List TypedStatement) (last : Option TypedExpr) → BindsOnce l p names → Claim (ExprAt scope l e) →
      Claim (BlockAt (names ++ scope) k ss last) → Claim (BlockAt scope k (statements.Let p l e ∷ ss) last)
  let_holds scope k l p names e ss last binds h i values fit =
      subst (HasAnswer k) (sym (mean-Let s.functions s.witness p l e _ values))
      (value_then l k (run e values) _ (h.1 values fit) (λ v fits.
      let b = pattern_binds l p names binds.binds v fits in
      shaped_then (λ u. IsValueOf u k) (scopes.bound p v) b.0 _ b.1 (i (b.0 ++ values) (scope_join names scope b.0 values b.2 fit))))

  plain_holds : (scope : Scope) (k : HlType) (e : TypedExpr) (ss : List TypedStatement) (last : Option TypedExpr) → Claim (ExprAt scope unit_type e) → Claim (BlockAt scope k ss last) →
      Claim (BlockAt scope k (statements.Plain e ∷ ss) last)
  plain_holds scope k e ss last h i values fit =
      subst (HasAnswer k) (sym (mean-Plain s.functions s.witness e _ values)) (value_then unit_type k (run e values) _ (h.1 values fit) (λ v fits. i values fit))

  -- each rule keeps the claim
  pub answers : (j : Judged) → Typed s.around j → Claim j
  answers j (rule.expr scope k e is sound h) = (sound, answers (FormAt scope k e.form) h sound e is refl)
  answers j (rule.no_more scope) = λ values fit. tt
  answers j (rule.one_more scope k ks e es h i) = more_hold scope k ks e es (answers (ExprAt scope k e) h) (answers (ExprsAt scope ks es) i)
  answers j (rule.name scope k word found) = λ sound e same is values fit.
      subst (HasAnswer k) (sym (mean-Name s.functions s.witness e word is values)) (name_answers k word values (name_value word scope values k found fit))
  answers j (rule.witness scope k word found) = λ sound e same is values fit.
      subst (HasAnswer k) (sym (mean-Witness s.functions s.witness e word is values)) (name_answers k word s.witness (witness_value word s.around.witnesses s.witness k found s.have))
  answers j (rule.value scope k v fits) = λ sound e same is values fit. subst (HasAnswer k) (sym (mean-Value s.functions s.witness e v is values)) fits
  answers j (rule.literal scope width word less) = λ sound e same is values fit.
      subst (HasAnswer (kind.UInt width)) (sym (mean-Literal s.functions s.witness e word is values))
      (subst (λ l. HasAnswer (kind.UInt width) (number_at (out-HlType l) word)) (sym same) (literal_answers width word sound less))
  answers j (rule.truth scope) = λ sound e same is values fit. subst (HasAnswer kind.Bool) (sym (mean-True s.functions s.witness e is values)) (bool_fits true)
  answers j (rule.falsehood scope) = λ sound e same is values fit. subst (HasAnswer kind.Bool) (sym (mean-False s.functions s.witness e is values)) (bool_fits false)
  answers j (rule.tuple scope ks es h) = λ sound e same is. after_parts scope (kind.Tuple ks) ks e es _ (answers (ExprsAt scope ks es) h) (mean-Tuple s.functions s.witness e es is)
      (λ vs are. tuple_fits vs (kind.Tuple ks) ks (kind.outs-Tuple ks) are)
  answers j (rule.array scope item count es h) = λ sound e same is.
      after_parts scope (kind.Array item count) (replicate count item) e es _ (answers (ExprsAt scope (replicate count item) es) h) (mean-Array s.functions s.witness e es is)
      (λ vs are. array_holds vs item count are)
  answers j (rule.list scope item bound es few h) = λ sound e same is.
      after_parts scope (kind.List item bound) (replicate (length es) item) e es _ (answers (ExprsAt scope (replicate (length es) item) es) h) (mean-List s.functions s.witness e es is)
      (λ vs are. list_holds vs item (length es) bound sound few are)
  answers j (rule.nothing scope item) = λ sound e same is values fit.
      subst (HasAnswer (kind.Option item)) (sym (mean-Nothing s.functions s.witness e is values)) (nothing_fits (kind.Option item) item (kind.outs-Option item))
  answers j (rule.some scope item part h) = λ sound e same is.
      after_part scope (kind.Option item) item e part _ (answers (ExprAt scope item part) h) (mean-Some s.functions s.witness e part is) (λ v fits. some_fits v (kind.Option item) item (kind.outs-Option item) fits)
  answers j (rule.left scope k l part h) = λ sound e same is.
      after_part scope (kind.Either k l) k e part _ (answers (ExprAt scope k part) h) (mean-Left s.functions s.witness e part is) (λ v fits. left_fits v (kind.Either k l) k l (kind.outs-Either k l) fits)
  answers j (rule.right scope k l part h) = λ sound e same is.
      after_part scope (kind.Either k l) l e part _ (answers (ExprAt scope l part) h) (mean-Right s.functions s.witness e part is) (λ v fits. right_fits v (kind.Either k l) k l (kind.outs-Either k l) fits)
  answers j (rule.panic scope k) = λ sound e same is values fit. subst (HasAnswer k) (sym (mean-Panic s.functions s.witness e is values)) tt
  answers j (rule.assert scope part h) = λ sound e same is.
      after_part scope unit_type kind.Bool e part _ (answers (ExprAt scope kind.Bool part) h) (mean-Assert s.functions s.witness e part is)
      (λ v fits. asserted_holds (out-HlValue v) (opened v kind.Bool HlType-F.Bool kind.outs-Bool fits))
  answers j (rule.dbg scope k part h) = λ sound e same is values fit. subst (HasAnswer k) (sym (mean-Dbg s.functions s.witness e part is values)) ((answers (ExprAt scope k part) h).1 values fit)
  answers j (rule.unwrap scope k part h) = λ sound e same is.
      after_part scope k (kind.Option k) e part _ (answers (ExprAt scope (kind.Option k) part) h) (mean-Unwrap s.functions s.witness e part is)
      (λ v fits. unwrapped_holds (out-HlValue v) k (opened v (kind.Option k) (HlType-F.Option k) (kind.outs-Option k) fits))
  answers j (rule.unwrap_left scope k other part h) = λ sound e same is.
      after_part scope k (kind.Either k other) e part _ (answers (ExprAt scope (kind.Either k other) part) h) (mean-UnwrapLeft s.functions s.witness e other part is)
      (λ v fits. left_holds (out-HlValue v) k other (opened v (kind.Either k other) (HlType-F.Either k other) (kind.outs-Either k other) fits))
  answers j (rule.unwrap_right scope k other part h) = λ sound e same is.
      after_part scope k (kind.Either other k) e part _ (answers (ExprAt scope (kind.Either other k) part) h) (mean-UnwrapRight s.functions s.witness e other part is)
      (λ v fits. right_holds (out-HlValue v) k other (opened v (kind.Either other k) (HlType-F.Either other k) (kind.outs-Either other k) fits))
  answers j (rule.is_none scope item part h) = λ sound e same is.
      after_part scope kind.Bool (kind.Option item) e part _ (answers (ExprAt scope (kind.Option item) part) h) (mean-IsNone s.functions s.witness e item part is)
      (λ v fits. tested_holds (out-HlValue v) item (opened v (kind.Option item) (HlType-F.Option item) (kind.outs-Option item) fits))
  answers j (rule.matched scope taken k part one two first second are h i l) = λ sound e same is.
      match_holds scope taken k e part one two first second is are (answers (ExprAt scope taken part) h) (answers (ExprAt (first ++ scope) k one.body) i) (answers (ExprAt (second ++ scope) k two.body) l)
  answers j (rule.into scope source k part alike h) = λ sound e same is.
      let g = answers (ExprAt scope source part) h in
      after_part scope k source e part _ g (mean-Into s.functions s.witness e source part is)
      (λ v fits. subst (λ l. HasAnswer k (converted source l v)) (sym same) (converted_holds source k v g.0 sound alike fits))
  answers j (rule.jet scope word row es found h) = λ sound e same is.
      after_parts scope (jet_result row) (jet_arguments row) e es _ (answers (ExprsAt scope (jet_arguments row) es) h) (mean-Jet s.functions s.witness e word es is) (λ vs are. jets_answer word row found vs are)
  answers j (rule.call scope word f es found h) = λ sound e same is.
      after_parts scope f.result (param_types f) e es _ (answers (ExprsAt scope (param_types f) es) h) (mean-Call s.functions s.witness e word es is) (λ vs are. call_holds word f found vs are)
  answers j (rule.fold scope word count f item items start found are bounds h i) = λ sound e same is values fit.
      let list : HlType = kind.List item (decimal_value count) in
      subst (HasAnswer f.result) (sym (mean-Fold s.functions s.witness e word count items start is values))
      (loop_holds s.functions s.witness word f item list items start values (known_call word f found) are items_in_list (list_items item (decimal_value count))
      ((answers (ExprAt scope list items) h).1 values fit) ((answers (ExprAt scope f.result start) i).1 values fit))
  answers j (rule.array_fold scope word count f item items start found are h i) = λ sound e same is values fit.
      let array : HlType = kind.Array item (decimal_value count) in
      subst (HasAnswer f.result) (sym (mean-ArrayFold s.functions s.witness e word count items start is values))
      (loop_holds s.functions s.witness word f item array items start values (known_call word f found) are items_in_array (array_items item (decimal_value count))
      ((answers (ExprAt scope array items) h).1 values fit) ((answers (ExprAt scope f.result start) i).1 values fit))
  answers j (rule.for_while scope word f total given end width start context found are counts ends h i) = λ sound e same is values fit.
      subst (HasAnswer f.result) (sym (mean-ForWhile s.functions s.witness e word start context is values))
      (while_holds s.functions s.witness word f total given end width start context values (known_call word f found) are counts ends
      ((answers (ExprAt scope total start) h).1 values fit) ((answers (ExprAt scope given context) i).1 values fit))
  answers j (rule.block scope k ss last h) = λ sound e same is values fit.
      subst (HasAnswer k) (sym (mean-Block s.functions s.witness e ss last is values)) (answers (BlockAt scope k ss last) h values fit)
  answers j (rule.no_last scope) = λ values fit. unit_fits
  answers j (rule.last scope k e h) = (answers (ExprAt scope k e) h).1
  answers j (rule.binding scope k l p names e ss last binds h i) = let_holds scope k l p names e ss last binds (answers (ExprAt scope l e) h) (answers (BlockAt (names ++ scope) k ss last) i)
  answers j (rule.plain scope k e ss last h i) = plain_holds scope k e ss last (answers (ExprAt scope unit_type e) h) (answers (BlockAt scope k ss last) i)
