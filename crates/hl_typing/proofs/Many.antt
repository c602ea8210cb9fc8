-- Forms with several parts: tuples, arrays, lists, calls and loops.
use Rattle.std.proofs.Common.{◌≡◌, ℕ, suc, ◌<◌, Bool, true, false, nat_lt, nat_eq, eqb-true, ltb-true, List, [], ◌∷◌, length, replicate, bytes_eq, Some, Ok, Err, refl, sym, ap, ◌∙◌, subst, arith, IsTrue}
use Rattle.std.specs.Prelude.{if◌then◌else◌}
use Rattle.std.proofs.lemmas.List.{length-map}
use Rattle.hl_data.specs.declared.typed.TypedExpr.{TypedExpr}
use Rattle.hl_data.specs.declared.typed.TypedForm.TheVariants as typed
use Rattle.hl_data.specs.declared.typed.TypedFunction.{TypedFunction}
use Rattle.hl_syntax.specs.declared.kinds.HlType.{HlType}
use Rattle.hl_syntax.specs.declared.kinds.HlType.TheOpen.{HlType-F}
use Rattle.hl_syntax.specs.declared.kinds.HlType.TheVariants as kind
use Rattle.hl_syntax.specs.declared.kinds.TypedName.{TypedName}
use Rattle.hl_syntax.specs.declared.rules.Limit.TheVariants.{L4}
use Rattle.hl_syntax.specs.declared.rules.Rule.TheVariants.{K3, K6, K8, K9, K11, K14, K15, K22}
use Rattle.hl_syntax.specs.declared.token.Mark.{Mark}
use Rattle.hl_syntax.specs.declared.tree.Expr.{Expr}
use Rattle.hl_syntax.specs.declared.tree.ExprForm.TheOpen.{ExprForm-F}
use Rattle.hl_syntax.specs.declared.tree.ExprForm.TheVariants as exprs
use Rattle.simplicityhl.specs.Kinds.{IsSound, is_bound, is_count, is_width}
use Rattle.simplicityhl.specs.Tokens.{decimal_value}
use Rattle.simplicityhl.specs.Written.{Broken, counted, breaks_limit}
use Rattle.simplicityhl.specs.Kinds.{is_sound}
use Rattle.hl_rules.specs.Exprs.{expr_walk, form_step, parts_walk, items_walk, param_types, fold_shape, while_shape, jet_named, jet_arguments, jet_result}
use Rattle.hl_rules.specs.Places.{Scope, function_named}
use Rattle.hl_rules.specs.Same.{same_type, parts_of, array_of, list_of}
use Rattle.hl_typing.specs.Erased as erased
use Rattle.hl_typing.specs.Erased.{Erased, ExprsOf}
use Rattle.hl_typing.specs.Typing as rule
use Rattle.hl_typing.specs.Typing.{Typed, ExprsAt, IsCalled}
use Rattle.hl_typing.proofs.Called.{named_found, kinds_sound, fold_shape_is, while_shape_is}
use Rattle.hl_typing.proofs.Claims.{Setting, IsMet, GoodWalk, GoodForm, AreSound, Proved, exprs_of, expr_of, walk_of, walks_of, around, at_type}
use Rattle.hl_typing.proofs.Every.{Every, every_found}
use Rattle.hl_typing.proofs.Jets.{jet_sound}
use Rattle.hl_typing.proofs.Same.{same_equal, both_true}
use Rattle.hl_typing.proofs.Shapes.{is_tuple, is_array, is_list}
use Rattle.hl_typing.proofs.Sound.{opened_sound, parts_sound, list_sound, array_sound}
use Rattle.hl_typing.proofs.Steps.{ok_same, then_good, step_good, needs_good, wants_good, done_good}
use Rattle.hl_typing.proofs.Widths.{counter_widths}

-- parts of sound types are sound

tuple_sound : (k : HlType) (ks : List HlType) → kind.Tuple ks ≡ k → IsSound k → Every IsSound ks
tuple_sound k ks is sound = parts_sound ks (opened_sound (HlType-F.Tuple ks) (kind.Tuple ks) (kind.outs-Tuple ks) (subst IsSound (sym is) sound))

array_item : (k item : HlType) (count : ℕ) → kind.Array item count ≡ k → IsSound k → IsSound item
array_item k item count is sound = (both_true (is_sound item) (is_count count) (opened_sound (HlType-F.Array item count) (kind.Array item count) (kind.outs-Array item count) (subst IsSound (sym is) sound))).0

list_item : (k item : HlType) (bound : ℕ) → kind.List item bound ≡ k → IsSound k → IsSound item
list_item k item bound is sound = (both_true (is_sound item) (is_bound bound) (opened_sound (HlType-F.List item bound) (kind.List item bound) (kind.outs-List item bound) (subst IsSound (sym is) sound))).0

word_kind : (width : ℕ) → IsSound (kind.UInt width) → IsTrue (is_width width)
word_kind width sound = opened_sound (HlType-F.UInt width) (kind.UInt width) (kind.outs-UInt width) sound

count_by : (b : Bool) (n m : ℕ) (broken : Broken) → (if b then Ok n else Err broken) ≡ Ok m → (b ≡ true) × (n ≡ m)
count_by true n m broken e = (refl, ok_same e)
count_by false n m broken e = absurd (cc)

counted_is : (mark : Mark) (n : ℕ) → counted mark ≡ Ok n → (is_count (decimal_value mark.text) ≡ true) × (decimal_value mark.text ≡ n)
counted_is mark n e = count_by (is_count (decimal_value mark.text)) (decimal_value mark.text) n (breaks_limit L4 mark.span) e

module _ (s : Setting) where
  abbrev M : TypedName → Type 0
  M = IsMet s

  -- parts at their types, and the parts of the source that they are of
  record PartsHold (scope : Scope) (ks : List HlType) (sources : List Expr) (es : List TypedExpr) : Type 0 where
    parts : Typed (around s) (ExprsAt scope ks es)
    are : Erased s.context.aliases s.context.entries (ExprsOf es sources)

  as_many : (ps : List (Proved s)) (n : ℕ) → nat_eq (length (walks_of s ps)) n ≡ true → length ps ≡ n
  as_many ps n e = sym (length-map ps (expr_of s)) ∙ sym (length-map (exprs_of s ps) (expr_walk s.context)) ∙ eqb-true _ _ e

  parts_good : (ps : List (Proved s)) (ks : List HlType) (scope : Scope) → length ps ≡ length ks → Every IsSound ks → GoodWalk s (parts_walk (walks_of s ps) ks scope) (PartsHold scope ks (exprs_of s ps))
  parts_good [] [] scope long sound = done_good s.context M (record { parts = rule.no_more scope; are = erased.no_more })
  parts_good [] (k ∷ ks) scope long sound = absurd (omega (arith, long))
  parts_good (p ∷ ps) [] scope long sound = absurd (omega (arith, long))
  parts_good (p ∷ ps) (k ∷ ks) scope long sound =
      then_good s.context M (p.1 scope k K6 sound.0) (λ one. then_good s.context M (parts_good ps ks scope (omega (arith, long)) sound.1) (λ rest. done_good s.context M (λ others first. record {
        parts = rule.one_more scope k ks one rest first.typed others.parts;
        are = erased.one_more one rest p.0 (exprs_of s ps) first.erased others.are;
      })))

  record ItemsHold (scope : Scope) (item : HlType) (ps : List (Proved s)) (es : List TypedExpr) : Type 0 where
    long : length es ≡ length ps
    holds : PartsHold scope (replicate (length ps) item) (exprs_of s ps) es

  items_good : (ps : List (Proved s)) (item : HlType) (scope : Scope) → IsSound item → GoodWalk s (items_walk (walks_of s ps) item scope) (ItemsHold scope item ps)
  items_good [] item scope sound = done_good s.context M (record { long = refl; holds = record { parts = rule.no_more scope; are = erased.no_more } })
  items_good (p ∷ ps) item scope sound =
      then_good s.context M (p.1 scope item K6 sound) (λ one. then_good s.context M (items_good ps item scope sound) (λ rest. done_good s.context M (λ others first. record {
        long = ap suc others.long;
        holds = record {
          parts = rule.one_more scope item (replicate (length ps) item) one rest first.typed others.holds.parts;
          are = erased.one_more one rest p.0 (exprs_of s ps) first.erased others.holds.are;
        };
      })))

  pub tuple : (ps : List (Proved s)) → GoodForm s (form_step s.context (ExprForm-F.Tuple (walks_of s ps))) (exprs.Tuple (exprs_of s ps))
  tuple ps span scope expected rule' sound =
      wants_good s.context M (parts_of expected) rule' span _ (λ ks are. needs_good s.context M (nat_eq (length (walks_of s ps)) (length ks)) K8 span _ (λ long.
      let same = is_tuple expected ks are in
      then_good s.context M (parts_good ps ks scope (as_many ps (length ks) long) (tuple_sound expected ks same sound)) (λ found. done_good s.context M (λ all. record {
        typed = at_type s scope (kind.Tuple ks) expected (typed.Tuple found) same (rule.tuple scope ks found all.parts);
        erased = erased.tuple found (exprs_of s ps) all.are;
      }))))

  pub array : (ps : List (Proved s)) → GoodForm s (form_step s.context (ExprForm-F.Array (walks_of s ps))) (exprs.Array (exprs_of s ps))
  array ps span scope expected rule' sound =
      wants_good s.context M (array_of expected) rule' span _ (λ array are. needs_good s.context M (nat_eq (length (walks_of s ps)) array.1) K8 span _ (λ long.
      let same = is_array expected array are in
      then_good s.context M (items_good ps array.0 scope (array_item expected array.0 array.1 same sound)) (λ found. done_good s.context M (λ all. record {
        typed = at_type s scope (kind.Array array.0 array.1) expected (typed.Array found) same
            (rule.array scope array.0 array.1 found (subst (λ n. Typed (around s) (ExprsAt scope (replicate n array.0) found)) (as_many ps array.1 long) all.holds.parts));
        erased = erased.array found (exprs_of s ps) all.holds.are;
      }))))

  pub list : (ps : List (Proved s)) → GoodForm s (form_step s.context (ExprForm-F.List (walks_of s ps))) (exprs.List (exprs_of s ps))
  list ps span scope expected rule' sound =
      wants_good s.context M (list_of expected) rule' span _ (λ list are. needs_good s.context M (nat_lt (length (walks_of s ps)) list.1) K9 span _ (λ few.
      let same = is_list expected list are in
      let less : length (walks_of s ps) < list.1 = ltb-true _ _ few in
      then_good s.context M (items_good ps list.0 scope (list_item expected list.0 list.1 same sound)) (λ found. done_good s.context M (λ all. record {
        typed = at_type s scope (kind.List list.0 list.1) expected (typed.List found) same
            (rule.list scope list.0 list.1 found (omega (arith, all.long, less, length-map ps (expr_of s), length-map (exprs_of s ps) (expr_walk s.context)))
            (subst (λ n. Typed (around s) (ExprsAt scope (replicate n list.0) found)) (sym all.long) all.holds.parts));
        erased = erased.list found (exprs_of s ps) all.holds.are;
      }))))

  pub jet : (word : Mark) (ps : List (Proved s)) → GoodForm s (form_step s.context (ExprForm-F.Jet word (walks_of s ps))) (exprs.Jet word (exprs_of s ps))
  jet word ps span scope expected rule' sound =
      wants_good s.context M (jet_named word.text) K22 word.span _ (λ row is. needs_good s.context M (nat_eq (length (walks_of s ps)) (length (jet_arguments row))) K11 span _ (λ long.
      needs_good s.context M (same_type (jet_result row) expected) rule' span _ (λ same.
      then_good s.context M (parts_good ps (jet_arguments row) scope (as_many ps (length (jet_arguments row)) long) (jet_sound word.text row is)) (λ found. done_good s.context M (λ all. record {
        typed = at_type s scope (jet_result row) expected (typed.Jet word.text found) (same_equal (jet_result row) expected same) (rule.jet scope word.text row found is all.parts);
        erased = erased.jet word found (exprs_of s ps) all.are;
      })))))

  -- a function that is named

  called : (name : List ℕ) (f : TypedFunction) → function_named s.context.functions name ≡ Some f → IsCalled (around s) name f
  called name f is = let found = named_found s.context.functions name f is in record { is = found.0; not_main = found.1 }

  params_sound : (name : List ℕ) (f : TypedFunction) → function_named s.context.functions name ≡ Some f → Every IsSound (param_types f)
  params_sound name f is = kinds_sound f.params (every_found (λ (g : TypedFunction). AreSound g.params) (λ g. bytes_eq name g.name) s.context.functions f s.functions (named_found s.context.functions name f is).0).0

  pub call : (word : Mark) (ps : List (Proved s)) → GoodForm s (form_step s.context (ExprForm-F.Call word (walks_of s ps))) (exprs.Call word (exprs_of s ps))
  call word ps span scope expected rule' sound =
      wants_good s.context M (function_named s.context.functions word.text) K3 word.span _ (λ f is. needs_good s.context M (nat_eq (length (walks_of s ps)) (length f.params)) K11 span _ (λ long.
      needs_good s.context M (same_type f.result expected) rule' span _ (λ same.
      let many : length ps ≡ length (param_types f) = as_many ps (length f.params) long ∙ sym (length-map f.params (λ (p : TypedName). p.kind)) in
      then_good s.context M (parts_good ps (param_types f) scope many (params_sound word.text f is)) (λ found. done_good s.context M (λ all. record {
        typed = at_type s scope f.result expected (typed.Call word.text found) (same_equal f.result expected same) (rule.call scope word.text f found (called word.text f is) all.parts);
        erased = erased.call word found (exprs_of s ps) all.are;
      })))))

  -- loops

  two_sound : (kinds : List HlType) (a b : HlType) → kinds ≡ a ∷ b ∷ [] → Every IsSound kinds → IsSound a × IsSound b
  two_sound kinds a b is h = let all = subst (Every IsSound) is h in (all.0, all.1.0)

  pub fold : (word count : Mark) (p q : Proved s) → GoodForm s (form_step s.context (ExprForm-F.Fold word count (walk_of s p) (walk_of s q))) (exprs.Fold word count p.0 q.0)
  fold word count p q span scope expected rule' sound =
      wants_good s.context M (function_named s.context.functions word.text) K3 word.span _ (λ f is. step_good s.context M (counted count) (λ bound bound_is. needs_good s.context M (is_bound bound) K15 count.span _ (λ bounds.
      wants_good s.context M (fold_shape (param_types f) f.result) K14 word.span _ (λ shape shape_is. needs_good s.context M (same_type f.result expected) rule' span _ (λ same.
      let shaped = fold_shape_is (param_types f) f.result shape shape_is in
      let sounds = two_sound (param_types f) shape.0 shape.1 shaped.are (params_sound word.text f is) in
      let number = (counted_is count bound bound_is).1 in
      then_good s.context M (p.1 scope (kind.List shape.0 bound) K6 (list_sound shape.0 bound sounds.0 bounds)) (λ found. then_good s.context M (q.1 scope shape.1 K6 sounds.1) (λ begin. done_good s.context M (λ begins holds. record {
        typed = at_type s scope f.result expected (typed.Fold word.text count.text found begin) (same_equal f.result expected same)
            (rule.fold scope word.text count.text f shape.0 found begin (called word.text f is) (shaped.are ∙ ap (λ (k : HlType). shape.0 ∷ k ∷ []) shaped.gives) (subst (λ n. IsTrue (is_bound n)) (sym number) bounds)
            (subst (λ n. Typed (around s) (rule.ExprAt scope (kind.List shape.0 n) found)) (sym number) holds.typed)
            (subst (λ (k : HlType). Typed (around s) (rule.ExprAt scope k begin)) shaped.gives begins.typed));
        erased = erased.fold word count found begin p.0 q.0 holds.erased begins.erased;
      }))))))))

  pub array_fold : (word count : Mark) (p q : Proved s) → GoodForm s (form_step s.context (ExprForm-F.ArrayFold word count (walk_of s p) (walk_of s q))) (exprs.ArrayFold word count p.0 q.0)
  array_fold word count p q span scope expected rule' sound =
      wants_good s.context M (function_named s.context.functions word.text) K3 word.span _ (λ f is. step_good s.context M (counted count) (λ many many_is.
      wants_good s.context M (fold_shape (param_types f) f.result) K14 word.span _ (λ shape shape_is. needs_good s.context M (same_type f.result expected) rule' span _ (λ same.
      let shaped = fold_shape_is (param_types f) f.result shape shape_is in
      let sounds = two_sound (param_types f) shape.0 shape.1 shaped.are (params_sound word.text f is) in
      let number = counted_is count many many_is in
      then_good s.context M (p.1 scope (kind.Array shape.0 many) K6 (array_sound shape.0 many sounds.0 (subst (λ n. IsTrue (is_count n)) number.1 number.0))) (λ found.
      then_good s.context M (q.1 scope shape.1 K6 sounds.1) (λ begin. done_good s.context M (λ begins holds. record {
        typed = at_type s scope f.result expected (typed.ArrayFold word.text count.text found begin) (same_equal f.result expected same)
            (rule.array_fold scope word.text count.text f shape.0 found begin (called word.text f is) (shaped.are ∙ ap (λ (k : HlType). shape.0 ∷ k ∷ []) shaped.gives)
            (subst (λ n. Typed (around s) (rule.ExprAt scope (kind.Array shape.0 n) found)) (sym number.1) holds.typed)
            (subst (λ (k : HlType). Typed (around s) (rule.ExprAt scope k begin)) shaped.gives begins.typed));
        erased = erased.array_fold word count found begin p.0 q.0 holds.erased begins.erased;
      })))))))

  pub for_while : (word : Mark) (p q : Proved s) → GoodForm s (form_step s.context (ExprForm-F.ForWhile word (walk_of s p) (walk_of s q))) (exprs.ForWhile word p.0 q.0)
  for_while word p q span scope expected rule' sound =
      wants_good s.context M (function_named s.context.functions word.text) K3 word.span _ (λ f is. wants_good s.context M (while_shape (param_types f) f.result) K14 word.span _ (λ shape shape_is.
      needs_good s.context M (same_type f.result expected) rule' span _ (λ same.
      let shaped = while_shape_is (param_types f) f.result shape shape_is in
      let sounds = subst (Every IsSound) shaped.are (params_sound word.text f is) in
      let counts = counter_widths shaped.width (word_kind shaped.width sounds.1.1.0) shaped.few in
      then_good s.context M (p.1 scope shape.0 K6 sounds.0) (λ begin. then_good s.context M (q.1 scope shape.1 K6 sounds.1.0) (λ told. done_good s.context M (λ tells begins. record {
        typed = at_type s scope f.result expected (typed.ForWhile word.text begin told) (same_equal f.result expected same)
            (rule.for_while scope word.text f shape.0 shape.1 shaped.end shaped.width begin told (called word.text f is) shaped.are counts shaped.ends begins.typed tells.typed);
        erased = erased.for_while word begin told p.0 q.0 begins.erased tells.erased;
      }))))))
