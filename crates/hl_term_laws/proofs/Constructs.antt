-- Each construct computes its meaning where its parts do.
use Rattle.std.proofs.Common.{◌≡◌, ℕ, zero, suc, replicate, ◌^◌, ◌<◌, Bool, true, false, ◌&&◌, List, [], ◌∷◌, ◌++◌, map, Option, Some, None, option_map, refl, sym, ap, ◌∙◌, subst, IsTrue, lt-ltb}
use Rattle.std.specs.Prelude.{option_and_then, if◌then◌else◌}
use Rattle.hl_data.specs.declared.typed.TypedSide.{TypedSide}
use Rattle.hl_data.specs.declared.typed.TypedSide.TheVariants as sides
use Rattle.hl_data.specs.declared.value.HlValue.{HlValue}
use Rattle.hl_data.specs.declared.value.HlValue.TheOpen.{HlValue-F}
use Rattle.hl_data.specs.declared.value.HlValue.TheVariants as value
use Rattle.hl_data.specs.declared.value.HlValue.TheViews.{out-HlValue}
use Rattle.hl_syntax.specs.declared.kinds.HlType.{HlType, map-HlType}
use Rattle.hl_syntax.specs.declared.kinds.HlType.TheOpen.{HlType-F}
use Rattle.hl_syntax.specs.declared.kinds.HlType.TheViews.{out-HlType}
use Rattle.hl_syntax.specs.declared.tree.Pattern.{Pattern}
use Rattle.jets.specs.Unsigned.{is_width}
use Rattle.hl_syntax.specs.declared.kinds.TypedName.{TypedName}
use Rattle.hl_meaning.specs.Answer.{Answer, gives, fails, stuck, and_then, shaped, known}
use Rattle.hl_meaning.specs.Loops.{Calls, folded}
use Rattle.hl_meaning.specs.Literals.{literal_value}
use Rattle.hl_meaning.specs.Mean.{Meaning, ArmMeaning, all_in, made_of, taking, asserted, unwrapped, unwrapped_left, unwrapped_right, none_tested, number_at, converted, are_alike, matched, empty}
use Rattle.hl_meaning.specs.Scopes.{Binding, meant, bound}
use Rattle.hl_meaning.specs.Values.{encoded, decoded, at_each, word_at, same_kind}
use Rattle.simplicity.specs.Canon.{Declared, erased}
use Rattle.simplicity.specs.Terms as bare
use Rattle.simplicity.specs.Terms.{meaning, paired, on_tag, on_first as at_first, on_second as at_second}
use Rattle.simplicity.specs.Tuples.{tuple_value, tuple_kind}
use Rattle.simplicity.specs.Types.{Kind, One, Sum, Product, Value, UnitValue, Inl, Inr, Pair, word_value}
use Rattle.simplicity.specs.Widths.{level_of}
use Rattle.simplicityhl.specs.Kinds.{form, form_step, is_sound}
use Rattle.simplicity.specs.Arrows.{IsTypedTerm}
use Rattle.simplicity.specs.Arrows as row
use Rattle.hl_term_laws.specs.Renders.{Computes, Scoped, ScopedIgnored, ScopedBoth, Renders, AreGiven, RendersLoop, over_items, Recodes}
use Rattle.simplicity.specs.Arrows.{source, target}
use Rattle.simplicity.specs.Makes.{iden, unit, comp, pair, on_first, on_second, to_left, to_right, by_tag, only_left, only_right, word, fail, tuple, zero_bytes}
use Rattle.hl_terms.specs.Shapes.{Shape, Ignored, Both, kind_of, variables_of, pattern_shape}
use Rattle.hl_terms.specs.Paths.{variable_term}
use Rattle.hl_rules.specs.Places.{variable_type}
use Rattle.hl_terms.specs.Translated as made
use Rattle.hl_terms.specs.Translated.{or_fail, literal_at, side_shape, is_left}
use Rattle.hl_term_laws.proofs.Encoded.{form_at, bool_of, option_of, either_of, BoolOf, OfBool, OptionOf, OfNothing, OfSome, EitherOf, OfLeft, OfRight, enc_bool, enc_nothing, enc_some, enc_left, enc_right, enc_tuple, enc_word, enc_array}
use Rattle.hl_term_laws.proofs.Parts.{AreRendered, parts_typed, parts_then}
use Rattle.hl_term_laws.proofs.Paths.{leads_at}
use Rattle.hl_term_laws.proofs.Patterns.{pattern_lays}
use Rattle.hl_term_laws.proofs.Sides.{PatternFits, SidesFit, FitsEither, FitsOption, FitsBool}
use Rattle.simplicity.proofs.Arrows.{typed_comp, typed_pair, typed_first, typed_second, typed_left, typed_right, typed_tag, typed_only_left, typed_only_right}

-- answers one after the other

after : (k l : HlType) (a : Answer HlValue) (next : HlValue → Answer HlValue) (d : Option Value) (run : Value → Option Value) → Computes k a d →
    ((v : HlValue) (c : Value) → encoded v k ≡ Some c → Computes l (next v) (run c)) → Computes l (and_then a next) (bare.and_then d run)
after k l (gives v) next d run h g = rw h.is (g v h.core h.encodes)
after k l fails next d run h g = rw h refl
after k l stuck next d run h g = tt

beside_after : (k l : HlType) (a : Answer HlValue) (next : HlValue → Answer HlValue) (d : Option Value) (second : Value) (run : Value → Option Value) → Computes k a d →
    ((v : HlValue) (c : Value) → encoded v k ≡ Some c → Computes l (next v) (run (Pair c second))) → Computes l (and_then a next) (bare.and_then (paired d (Some second)) run)
beside_after k l (gives v) next d second run h g = rw h.is (g v h.core h.encodes)
beside_after k l fails next d second run h g = rw h refl
beside_after k l stuck next d second run h g = tt

plain_after : (k l : HlType) (a b : Answer HlValue) (d f : Option Value) → Computes k a d → Computes l b f → Computes l (and_then a (λ v. b)) (bare.and_then (paired d f) (at_second Some))
plain_after k l (gives v) (gives u) d f h g = record { core = g.core; encodes = g.encodes; is = rw (h.is, g.is) refl }
plain_after k l (gives v) fails d f h g = rw (h.is, g) refl
plain_after k l (gives v) stuck d f h g = tt
plain_after k l fails b d f h g = rw h refl
plain_after k l stuck b d f h g = tt

-- what layers give

asserted_by : (k : HlType) (w : HlValue-F HlValue) (c : Value) → out-HlType k ≡ HlType-F.Tuple [] → BoolOf w c → Computes k (asserted w) (on_tag (λ u. None) (λ u. Some UnitValue) (Pair c UnitValue))
asserted_by k _ _ is (OfBool true) = record { core = UnitValue; encodes = enc_tuple [] k [] [] is refl; is = refl }
asserted_by k _ _ is (OfBool false) = refl

unwrapped_by : (k : HlType) (w : HlValue-F HlValue) (c : Value) → OptionOf k w c → Computes k (unwrapped w) (on_tag (λ u. None) (at_first Some) (Pair c UnitValue))
unwrapped_by k _ _ OfNothing = refl
unwrapped_by k _ _ (OfSome u c e) = record { core = c; encodes = e; is = refl }

left_by : (k l : HlType) (w : HlValue-F HlValue) (c : Value) → EitherOf k l w c → Computes k (unwrapped_left w) (on_tag (at_first Some) (λ u. None) (Pair c UnitValue))
left_by k l _ _ (OfLeft u c e) = record { core = c; encodes = e; is = refl }
left_by k l _ _ (OfRight u c e) = refl

right_by : (k l : HlType) (w : HlValue-F HlValue) (c : Value) → EitherOf l k w c → Computes k (unwrapped_right w) (on_tag (λ u. None) (at_first Some) (Pair c UnitValue))
right_by k l _ _ (OfLeft u c e) = refl
right_by k l _ _ (OfRight u c e) = record { core = c; encodes = e; is = refl }

none_by : (k item : HlType) (w : HlValue-F HlValue) (c : Value) → out-HlType k ≡ HlType-F.Bool → OptionOf item w c → Computes k (none_tested w) (on_tag (λ u. Some (Inr UnitValue)) (λ u. Some (Inl UnitValue)) (Pair c UnitValue))
none_by k item _ _ is OfNothing = record { core = Inr UnitValue; encodes = enc_bool true k is; is = refl }
none_by k item _ _ is (OfSome u c e) = record { core = Inl UnitValue; encodes = enc_bool false k is; is = refl }

map_replicate : (n : ℕ) (item : HlType) → map form (replicate n item) ≡ replicate n (form item)
map_replicate zero item = refl
map_replicate (suc n) item = ap (λ l. form item ∷ l) (map_replicate n item)

into_known : (to : HlType) (c : Value) (o : Option HlValue) → ((v : HlValue) → o ≡ Some v → encoded v to ≡ Some c) → Computes to (known o) (Some c)
into_known to c (Some v) h = record { core = c; encodes = h v refl; is = refl }
into_known to c None h = tt

both_of : (a b c : Bool) → a && (b && c) ≡ true → (a ≡ true) × (b ≡ true)
both_of true true c h = (refl, refl)
both_of true false c h = absurd (cc)
both_of false b c h = absurd (cc)

into_by : (from to : HlType) (v : HlValue) (c : Value) (b : Bool) → are_alike from to ≡ b → Recodes → form from ≡ form to → encoded v from ≡ Some c →
    Computes to (if b then known (option_and_then (decoded to) (encoded v from)) else stuck) (Some c)
into_by from to v c true is law same e =
    let sounds = both_of (is_sound from) (is_sound to) (same_kind (form from) (form to)) is in
    subst (λ o. Computes to (known (option_and_then (decoded to) o)) (Some c)) (sym e) (into_known to c (decoded to c) (λ u found. law from to v u c sounds.0 sounds.1 same e found))
into_by from to v c false is law same e = tt

-- two parts, and what is made of both values
two_then : (i j k : HlType) (a b : Answer HlValue) (d e : Option Value) (next : HlValue → HlValue → Answer HlValue) (run : Value → Option Value) → Computes i a d → Computes j b e →
    ((u v : HlValue) (c f : Value) → encoded u i ≡ Some c → encoded v j ≡ Some f → Computes k (next u v) (run (Pair c f))) → Computes k (and_then a (λ u. and_then b (next u))) (bare.and_then (paired d e) run)
two_then i j k (gives u) (gives v) d e next run h g f = rw (h.is, g.is) (f u v h.core g.core h.encodes g.encodes)
two_then i j k (gives u) fails d e next run h g f = rw (h.is, g) refl
two_then i j k (gives u) stuck d e next run h g f = tt
two_then i j k fails b d e next run h g f = rw h refl
two_then i j k stuck b d e next run h g f = tt

-- the items are taken out before the second part
taken_first : (i j k : HlType) (a b : Answer HlValue) (d e : Option Value) (items_in : HlValue → Option (List HlValue)) (next : List HlValue → HlValue → Answer HlValue) (run : Value → Option Value) → Computes i a d → Computes j b e →
    ((u v : HlValue) (c f : Value) → encoded u i ≡ Some c → encoded v j ≡ Some f → Computes k (and_then (known (items_in u)) (λ found. next found v)) (run (Pair c f))) →
    Computes k (and_then a (λ u. and_then (known (items_in u)) (λ found. and_then b (next found)))) (bare.and_then (paired d e) run)
taken_first i j k (gives u) b d e items_in next run h g f = by (items_in u) b g (λ v c r. f u v h.core c h.encodes r)
  where
    by : (o : Option (List HlValue)) (b : Answer HlValue) → Computes j b e → ((v : HlValue) (c : Value) → encoded v j ≡ Some c → Computes k (and_then (known o) (λ found. next found v)) (run (Pair h.core c))) →
        Computes k (and_then (known o) (λ found. and_then b (next found))) (bare.and_then (paired d e) run)
    by (Some found) (gives v) g r = rw (h.is, g.is) (r v g.core g.encodes)
    by (Some found) fails g r = rw (h.is, g) refl
    by (Some found) stuck g r = tt
    by None b g r = tt
taken_first i j k fails b d e items_in next run h g f = rw h refl
taken_first i j k stuck b d e items_in next run h g f = tt

module _ (named : List TypedName) (given : List Binding) (w : List Value) where
  -- the same meaning and the same term
  pub right_as : (scope : Shape) (k : HlType) (m n : Meaning) (t u : Declared) → ((values : List Binding) → n values ≡ m values) → u ≡ t → Renders named given w scope k m t → Renders named given w scope k n u
  right_as scope k m n t u same is r =
      subst (Renders named given w scope k n) (sym is) (record { from = r.from; to = r.to; typed = r.typed; computes = λ told values c s. subst (λ a. Computes k a (meaning (erased t) w c)) (sym (same values)) (r.computes told values c s) })

  -- leaves

  pub name_right : (scope : Shape) (k : HlType) (name : List ℕ) → variable_type (variables_of scope) name ≡ Some k → Renders named given w scope k (λ values. known (meant name values)) (or_fail (variable_term name scope) (kind_of scope) (form k))
  name_right scope k name h =
      let l = leads_at given w name scope k h in
      subst (Renders named given w scope k (λ values. known (meant name values))) (sym (ap (λ o. or_fail o (kind_of scope) (form k)) l.is)) (record {
        from = l.from;
        to = l.to;
        typed = l.typed;
        computes = λ told values c s.
            let f = l.leads values c s in
            subst (λ o. Computes k (known (option_map (λ (b : Binding). b.value) o)) (meaning (erased l.term) w c)) (sym f.is) (record { core = f.core; encodes = f.encodes; is = f.leads });
      })

  literal_by : (scope : Shape) (k : HlType) (width : ℕ) (text : List ℕ) → out-HlType k ≡ HlType-F.UInt width → IsTrue (is_width width) → literal_value text < 2 ^ width →
      Renders named given w scope k (λ values. known (word_at width (literal_value text))) (comp (unit (kind_of scope)) (word (level_of width) (literal_value text)))
  literal_by scope k width text is sound less = record {
    from = refl;
    to = sym (form_at k (HlType-F.UInt width) is);
    typed = typed_comp (unit (kind_of scope)) (word (level_of width) (literal_value text)) (row.UnitTerm (kind_of scope)) (row.Word (level_of width) (literal_value text)) refl;
    computes = λ told values c s. rw (sound, lt-ltb (literal_value text) (2 ^ width) less) (record { core = word_value (level_of width) (literal_value text); encodes = enc_word width (literal_value text) k is less; is = refl });
  }

  pub literal_right : (scope : Shape) (k : HlType) (width : ℕ) (text : List ℕ) → out-HlType k ≡ HlType-F.UInt width → IsTrue (is_width width) → literal_value text < 2 ^ width →
      Renders named given w scope k (λ values. number_at (out-HlType k) text) (literal_at (out-HlType k) (kind_of scope) text)
  literal_right scope k width text is sound less =
      subst (λ x. Renders named given w scope k (λ values. number_at x text) (literal_at x (kind_of scope) text)) (sym is) (literal_by scope k width text is sound less)

  bool_form : (k : HlType) → out-HlType k ≡ HlType-F.Bool → Sum One One ≡ form k
  bool_form k is = sym (form_at k HlType-F.Bool is)

  pub true_right : (scope : Shape) (k : HlType) → out-HlType k ≡ HlType-F.Bool → Renders named given w scope k (λ values. gives (value.Bool true)) (to_right One (unit (kind_of scope)))
  true_right scope k is = record { from = refl; to = bool_form k is; typed = typed_right One (unit (kind_of scope)) (row.UnitTerm (kind_of scope)); computes = λ told values c s. record { core = Inr UnitValue; encodes = enc_bool true k is; is = refl } }

  pub false_right : (scope : Shape) (k : HlType) → out-HlType k ≡ HlType-F.Bool → Renders named given w scope k (λ values. gives (value.Bool false)) (to_left One (unit (kind_of scope)))
  false_right scope k is = record { from = refl; to = bool_form k is; typed = typed_left One (unit (kind_of scope)) (row.UnitTerm (kind_of scope)); computes = λ told values c s. record { core = Inl UnitValue; encodes = enc_bool false k is; is = refl } }

  pub panic_right : (scope : Shape) (k : HlType) → Renders named given w scope k (λ values. fails) (fail (kind_of scope) (form k))
  panic_right scope k = record { from = refl; to = refl; typed = row.Fail zero_bytes (kind_of scope) (form k); computes = λ told values c s. refl }

  pub nothing_right : (scope : Shape) (k item : HlType) → out-HlType k ≡ HlType-F.Option item → Renders named given w scope k (λ values. gives value.Nothing) (to_left (made.item_of (out-HlType k)) (unit (kind_of scope)))
  nothing_right scope k item is = record {
    from = refl;
    to = ap (λ x. Sum One (made.item_of x)) is ∙ sym (form_at k (HlType-F.Option item) is);
    typed = typed_left (made.item_of (out-HlType k)) (unit (kind_of scope)) (row.UnitTerm (kind_of scope));
    computes = λ told values c s. record { core = Inl UnitValue; encodes = enc_nothing k item is; is = refl };
  }

  -- one part

  pub some_right : (scope : Shape) (k l : HlType) (m : Meaning) (t : Declared) → out-HlType k ≡ HlType-F.Option l → Renders named given w scope l m t → Renders named given w scope k (λ values. and_then (m values) (λ v. gives (value.Some v))) (to_right One t)
  some_right scope k l m t is r = record {
    from = r.from;
    to = ap (Sum One) r.to ∙ sym (form_at k (HlType-F.Option l) is);
    typed = typed_right One t r.typed;
    computes = λ told values c s. after l k (m values) (λ v. gives (value.Some v)) (meaning (erased t) w c) (λ u. Some (Inr u)) (r.computes told values c s) (λ v c e. record { core = Inr c; encodes = enc_some v k l c is e; is = refl });
  }

  pub left_right : (scope : Shape) (k l o : HlType) (m : Meaning) (t : Declared) → out-HlType k ≡ HlType-F.Either l o → Renders named given w scope l m t → Renders named given w scope k (λ values. and_then (m values) (λ v. gives (value.Left v))) (to_left (made.right_of (out-HlType k)) t)
  left_right scope k l o m t is r = record {
    from = r.from;
    to = ap (λ j. Sum j (made.right_of (out-HlType k))) r.to ∙ ap (λ x. Sum (form l) (made.right_of x)) is ∙ sym (form_at k (HlType-F.Either l o) is);
    typed = typed_left (made.right_of (out-HlType k)) t r.typed;
    computes = λ told values c s. after l k (m values) (λ v. gives (value.Left v)) (meaning (erased t) w c) (λ u. Some (Inl u)) (r.computes told values c s) (λ v c e. record { core = Inl c; encodes = enc_left v k l o c is e; is = refl });
  }

  pub right_right : (scope : Shape) (k l o : HlType) (m : Meaning) (t : Declared) → out-HlType k ≡ HlType-F.Either o l → Renders named given w scope l m t → Renders named given w scope k (λ values. and_then (m values) (λ v. gives (value.Right v))) (to_right (made.left_of (out-HlType k)) t)
  right_right scope k l o m t is r = record {
    from = r.from;
    to = ap (Sum (made.left_of (out-HlType k))) r.to ∙ ap (λ x. Sum (made.left_of x) (form l)) is ∙ sym (form_at k (HlType-F.Either o l) is);
    typed = typed_right (made.left_of (out-HlType k)) t r.typed;
    computes = λ told values c s. after l k (m values) (λ v. gives (value.Right v)) (meaning (erased t) w c) (λ u. Some (Inr u)) (r.computes told values c s) (λ v c e. record { core = Inr c; encodes = enc_right v k o l c is e; is = refl });
  }

  -- tests: a part beside the unit, and then a case of which one side may fail

  tested : (scope : Shape) (l k : HlType) (m : Meaning) (t u : Declared) (use_of : HlValue-F HlValue → Answer HlValue) → Renders named given w scope l m t → IsTypedTerm u → source u ≡ Product (form l) One → target u ≡ form k →
      ((v : HlValue) (c : Value) → encoded v l ≡ Some c → Computes k (use_of (out-HlValue v)) (meaning (erased u) w (Pair c UnitValue))) →
      Renders named given w scope k (taking use_of m) (comp (pair t (unit (kind_of scope))) u)
  tested scope l k m t u use_of r typed from to h = record {
    from = r.from;
    to = to;
    typed = typed_comp (pair t (unit (kind_of scope))) u (typed_pair t (unit (kind_of scope)) r.typed (row.UnitTerm (kind_of scope)) (sym r.from)) typed (ap (λ j. Product j One) r.to ∙ sym from);
    computes = λ told values c s. beside_after l k (m values) (λ v. use_of (out-HlValue v)) (meaning (erased t) w c) UnitValue (meaning (erased u) w) (r.computes told values c s) h;
  }

  pub assert_right : (scope : Shape) (k l : HlType) (m : Meaning) (t : Declared) → out-HlType k ≡ HlType-F.Tuple [] → out-HlType l ≡ HlType-F.Bool → Renders named given w scope l m t → Renders named given w scope k (taking asserted m) (made.asserted t (kind_of scope))
  assert_right scope k l m t k_is l_is r =
      tested scope l k m t (only_right One One One (unit (Product One One))) asserted r (typed_only_right One One One (unit (Product One One)) (row.UnitTerm (Product One One)) refl)
      (ap (λ j. Product j One) (bool_form l l_is)) (sym (form_at k (HlType-F.Tuple []) k_is)) (λ v c e. asserted_by k (out-HlValue v) c k_is (bool_of v l c l_is e))

  first_typed : (j : Kind) → IsTypedTerm (on_first One (iden j))
  first_typed j = typed_first One (iden j) (row.Iden j)

  pub unwrap_right : (scope : Shape) (k l : HlType) (m : Meaning) (t : Declared) → out-HlType l ≡ HlType-F.Option k → Renders named given w scope l m t → Renders named given w scope k (taking unwrapped m) (made.unwrapped_right One (form k) t (kind_of scope))
  unwrap_right scope k l m t is r =
      tested scope l k m t (only_right One (form k) One (on_first One (iden (form k)))) unwrapped r (typed_only_right One (form k) One (on_first One (iden (form k))) (first_typed (form k)) refl)
      (ap (λ j. Product j One) (sym (form_at l (HlType-F.Option k) is))) refl (λ v c e. unwrapped_by k (out-HlValue v) c (option_of v l k c is e))

  pub unwrap_left_right : (scope : Shape) (k o l : HlType) (m : Meaning) (t : Declared) → out-HlType l ≡ HlType-F.Either k o → Renders named given w scope l m t → Renders named given w scope k (taking unwrapped_left m) (made.unwrapped_left (form k) (form o) t (kind_of scope))
  unwrap_left_right scope k o l m t is r =
      tested scope l k m t (only_left (form k) (form o) One (on_first One (iden (form k)))) unwrapped_left r (typed_only_left (form k) (form o) One (on_first One (iden (form k))) (first_typed (form k)) refl)
      (ap (λ j. Product j One) (sym (form_at l (HlType-F.Either k o) is))) refl (λ v c e. left_by k o (out-HlValue v) c (either_of v l k o c is e))

  pub unwrap_right_right : (scope : Shape) (k o l : HlType) (m : Meaning) (t : Declared) → out-HlType l ≡ HlType-F.Either o k → Renders named given w scope l m t → Renders named given w scope k (taking unwrapped_right m) (made.unwrapped_right (form o) (form k) t (kind_of scope))
  unwrap_right_right scope k o l m t is r =
      tested scope l k m t (only_right (form o) (form k) One (on_first One (iden (form k)))) unwrapped_right r (typed_only_right (form o) (form k) One (on_first One (iden (form k))) (first_typed (form k)) refl)
      (ap (λ j. Product j One) (sym (form_at l (HlType-F.Either o k) is))) refl (λ v c e. right_by k o (out-HlValue v) c (either_of v l o k c is e))

  -- several parts

  then_some : (d : Option Value) → bare.and_then d Some ≡ d
  then_some (Some v) = refl
  then_some None = refl

  pub tuple_right : (scope : Shape) (k : HlType) (ks : List HlType) (ms : List Meaning) (ts : List Declared) → out-HlType k ≡ HlType-F.Tuple ks → AreRendered named given w scope ks ms ts → Renders named given w scope k (made_of value.Tuple ms) (tuple (kind_of scope) ts)
  tuple_right scope k ks ms ts is h =
      let t = parts_typed named given w scope ks ms ts h in
      record {
        from = t.from;
        to = t.to ∙ sym (form_at k (HlType-F.Tuple ks) is);
        typed = t.typed;
        computes = λ told values c s. subst (Computes k (made_of value.Tuple ms values)) (then_some (meaning (erased (tuple (kind_of scope) ts)) w c))
            (parts_then named given w scope ks ms ts k (λ vs. gives (value.Tuple vs)) Some h (λ vs cs e. record { core = tuple_value cs; encodes = enc_tuple vs k ks cs is e; is = refl }) told values c s);
      }

  pub is_none_right : (scope : Shape) (k item l : HlType) (m : Meaning) (t : Declared) → out-HlType k ≡ HlType-F.Bool → out-HlType l ≡ HlType-F.Option item → Renders named given w scope l m t → Renders named given w scope k (taking none_tested m) (made.none_tested (form item) t (kind_of scope))
  is_none_right scope k item l m t k_is l_is r =
      let yes = to_right One (unit (Product One One)) in let no = to_left One (unit (Product (form item) One)) in
      tested scope l k m t (by_tag One (form item) One yes no) none_tested r
      (typed_tag One (form item) One yes no (typed_right One (unit (Product One One)) (row.UnitTerm (Product One One))) (typed_left One (unit (Product (form item) One)) (row.UnitTerm (Product (form item) One))) refl refl refl)
      (ap (λ j. Product j One) (sym (form_at l (HlType-F.Option item) l_is))) (bool_form k k_is) (λ v c e. none_by k item (out-HlValue v) c k_is (option_of v l item c l_is e))

  pub array_right : (scope : Shape) (k item : HlType) (count : ℕ) (ms : List Meaning) (ts : List Declared) → out-HlType k ≡ HlType-F.Array item count → AreRendered named given w scope (replicate count item) ms ts → Renders named given w scope k (made_of value.Array ms) (tuple (kind_of scope) ts)
  array_right scope k item count ms ts is h =
      let t = parts_typed named given w scope (replicate count item) ms ts h in
      record {
        from = t.from;
        to = t.to ∙ ap tuple_kind (map_replicate count item) ∙ sym (form_at k (HlType-F.Array item count) is);
        typed = t.typed;
        computes = λ told values c s. subst (Computes k (made_of value.Array ms values)) (then_some (meaning (erased (tuple (kind_of scope) ts)) w c))
            (parts_then named given w scope (replicate count item) ms ts k (λ vs. gives (value.Array vs)) Some h (λ vs cs e. record { core = tuple_value cs; encodes = enc_array vs k item count cs is e; is = refl }) told values c s);
      }

  pub into_right : (scope : Shape) (from to : HlType) (m : Meaning) (t : Declared) → Recodes → form from ≡ form to → Renders named given w scope from m t → Renders named given w scope to (λ values. and_then (m values) (converted from to)) t
  into_right scope from to m t law same r = record {
    from = r.from;
    to = r.to ∙ same;
    typed = r.typed;
    computes = λ told values c s. subst (Computes to (and_then (m values) (converted from to))) (then_some (meaning (erased t) w c))
        (after from to (m values) (converted from to) (meaning (erased t) w c) Some (r.computes told values c s) (λ v c e. into_by from to v c (are_alike from to) refl law same e));
  }

  -- a call, of a function that computes what it means

  pub called_right : (scope : Shape) (k : HlType) (ks : List HlType) (ms : List Meaning) (ts : List Declared) (run : List HlValue → Answer HlValue) (f : Declared) → AreRendered named given w scope ks ms ts → source f ≡ tuple_kind (map form ks) → target f ≡ form k → IsTypedTerm f →
      ((vs : List HlValue) (cs : List Value) → at_each (map encoded vs) ks ≡ Some cs → Computes k (run vs) (meaning (erased f) w (tuple_value cs))) →
      Renders named given w scope k (λ values. and_then (all_in ms values) run) (comp (tuple (kind_of scope) ts) f)
  called_right scope k ks ms ts run f h from to typed runs =
      let t = parts_typed named given w scope ks ms ts h in
      record {
        from = t.from;
        to = to;
        typed = typed_comp (tuple (kind_of scope) ts) f t.typed typed (t.to ∙ sym from);
        computes = λ told values c s. parts_then named given w scope ks ms ts k run (meaning (erased f) w) h runs told values c s;
      }

  loop_typed : (scope : Shape) (i j : HlType) (m n : Meaning) (t u loop : Declared) → Renders named given w scope i m t → Renders named given w scope j n u → source loop ≡ Product (form i) (form j) → IsTypedTerm loop → IsTypedTerm (comp (pair t u) loop)
  loop_typed scope i j m n t u loop r o from typed =
      typed_comp (pair t u) loop (typed_pair t u r.typed o.typed (o.from ∙ sym r.from)) typed (ap (λ x. Product x (target u)) r.to ∙ ap (Product (form i)) o.to ∙ sym from)

  pub over_right : (scope : Shape) (i j k : HlType) (m n : Meaning) (t u loop : Declared) (items_in : HlValue-F HlValue → Option (List HlValue)) (run : Calls) → Renders named given w scope i m t → Renders named given w scope j n u → RendersLoop w i j k (over_items items_in run) loop →
      Renders named given w scope k (λ values. and_then (m values) (λ v. and_then (known (items_in (out-HlValue v))) (λ found. and_then (n values) (folded run found)))) (comp (pair t u) loop)
  over_right scope i j k m n t u loop items_in run r o l = record {
    from = r.from;
    to = l.to;
    typed = loop_typed scope i j m n t u loop r o l.from l.typed;
    computes = λ told values c s. taken_first i j k (m values) (n values) (meaning (erased t) w c) (meaning (erased u) w c) (λ v. items_in (out-HlValue v)) (folded run) (meaning (erased loop) w) (r.computes told values c s) (o.computes told values c s) l.runs;
  }

  pub two_right : (scope : Shape) (i j k : HlType) (m n : Meaning) (t u loop : Declared) (run : HlValue → HlValue → Answer HlValue) → Renders named given w scope i m t → Renders named given w scope j n u → RendersLoop w i j k run loop →
      Renders named given w scope k (λ values. and_then (m values) (λ v. and_then (n values) (run v))) (comp (pair t u) loop)
  two_right scope i j k m n t u loop run r o l = record {
    from = r.from;
    to = l.to;
    typed = loop_typed scope i j m n t u loop r o l.from l.typed;
    computes = λ told values c s. two_then i j k (m values) (n values) (meaning (erased t) w c) (meaning (erased u) w c) run (meaning (erased loop) w) (r.computes told values c s) (o.computes told values c s) l.runs;
  }

  -- what is bound before a scope

  bound_by : (p : Pattern) (l k : HlType) (scope : Shape) (m : Meaning) (t : Declared) (v : HlValue) (c d : Value) (values : List Binding) (o : Option (List Binding)) → bound p v ≡ o → encoded v l ≡ Some c →
      Renders named given w (Both (pattern_shape p l) scope) k m t → Scoped given scope values d → AreGiven named given w → Computes k (shaped o (λ new. m (new ++ values))) (meaning (erased t) w (Pair c d))
  bound_by p l k scope m t v c d values (Some new) is e r s told =
      r.computes told (new ++ values) (Pair c d) (ScopedBoth (pattern_shape p l) scope new values (new ++ values) c d (pattern_lays given p l v c new is e) s refl)
  bound_by p l k scope m t v c d values None is e r s told = tt

  known_by : (p : Pattern) (l k : HlType) (scope : Shape) (m : Meaning) (t : Declared) (v : HlValue) (c d : Value) (values : List Binding) (o : Option (List Binding)) → bound p v ≡ o → encoded v l ≡ Some c →
      Renders named given w (Both (pattern_shape p l) scope) k m t → Scoped given scope values d → AreGiven named given w → Computes k (and_then (known o) (λ new. m (new ++ values))) (meaning (erased t) w (Pair c d))
  known_by p l k scope m t v c d values (Some new) is e r s told = bound_by p l k scope m t v c d values (Some new) is e r s told
  known_by p l k scope m t v c d values None is e r s told = tt

  beside_scope : (scope : Shape) (l : HlType) (m : Meaning) (t : Declared) → Renders named given w scope l m t → IsTypedTerm (pair t (iden (kind_of scope)))
  beside_scope scope l m t r = typed_pair t (iden (kind_of scope)) r.typed (row.Iden (kind_of scope)) (sym r.from)

  pub let_right : (scope : Shape) (p : Pattern) (l k : HlType) (m n : Meaning) (t u : Declared) → PatternFits p l → Renders named given w scope l m t → Renders named given w (Both (pattern_shape p l) scope) k n u →
      Renders named given w scope k (λ values. and_then (m values) (λ v. shaped (bound p v) (λ new. n (new ++ values)))) (comp (pair t (iden (kind_of scope))) u)
  let_right scope p l k m n t u fits r q = record {
    from = r.from;
    to = q.to;
    typed = typed_comp (pair t (iden (kind_of scope))) u (beside_scope scope l m t r) q.typed (ap (λ j. Product j (kind_of scope)) (r.to ∙ sym fits) ∙ sym q.from);
    computes = λ told values c s. beside_after l k (m values) (λ v. shaped (bound p v) (λ new. n (new ++ values))) (meaning (erased t) w c) c (meaning (erased u) w) (r.computes told values c s)
        (λ v d e. bound_by p l k scope n u v d c values (bound p v) refl e q s told);
  }

  pub plain_right : (scope : Shape) (l k : HlType) (m n : Meaning) (t u : Declared) → Renders named given w scope l m t → Renders named given w scope k n u →
      Renders named given w scope k (λ values. and_then (m values) (λ v. n values)) (comp (pair t u) (on_second (target t) (iden (target u))))
  plain_right scope l k m n t u r q = record {
    from = r.from;
    to = q.to;
    typed = typed_comp (pair t u) (on_second (target t) (iden (target u))) (typed_pair t u r.typed q.typed (q.from ∙ sym r.from)) (typed_second (target t) (iden (target u)) (row.Iden (target u))) refl;
    computes = λ told values c s. plain_after l k (m values) (n values) (meaning (erased t) w c) (meaning (erased u) w c) (r.computes told values c s) (q.computes told values c s);
  }

  pub empty_right : (scope : Shape) (k : HlType) → out-HlType k ≡ HlType-F.Tuple [] → Renders named given w scope k (λ values. gives empty) (unit (kind_of scope))
  empty_right scope k is = record {
    from = refl;
    to = sym (form_at k (HlType-F.Tuple []) is);
    typed = row.UnitTerm (kind_of scope);
    computes = λ told values c s. record { core = UnitValue; encodes = enc_tuple [] k [] [] is refl; is = refl };
  }

  -- a match

  abbrev arm : TypedSide → Meaning → ArmMeaning
  arm side body = record { side = side; body = body }

  sides_form : (x : HlType-F HlType) (left right : TypedSide) → SidesFit x left right → form_step (map-HlType HlType Kind form x) ≡ Sum (kind_of (side_shape left)) (kind_of (side_shape right))
  sides_form _ _ _ (FitsEither p q k l e f) = sym (ap (λ j. Sum j (kind_of (pattern_shape q l))) e ∙ ap (Sum (form k)) f)
  sides_form _ _ _ (FitsOption q k f) = sym (ap (Sum One) f)
  sides_form _ _ _ FitsBool = refl

  unbound : (scope : Shape) (k : HlType) (m : Meaning) (t : Declared) (d : Value) (values : List Binding) → Renders named given w (Both (Ignored One) scope) k m t → Scoped given scope values d → AreGiven named given w → Computes k (m values) (meaning (erased t) w (Pair UnitValue d))
  unbound scope k m t d values r s told = r.computes told values (Pair UnitValue d) (ScopedBoth (Ignored One) scope [] values values UnitValue d (ScopedIgnored One UnitValue) s refl)

  either_chosen : (p q : Pattern) (i j k : HlType) (scope : Shape) (m n : Meaning) (t u : Declared) (x : HlValue-F HlValue) (c d : Value) (values : List Binding) → EitherOf i j x c →
      Renders named given w (Both (pattern_shape p i) scope) k m t → Renders named given w (Both (pattern_shape q j) scope) k n u → Scoped given scope values d → AreGiven named given w →
      Computes k (matched (arm (sides.Left p i) m ∷ arm (sides.Right q j) n ∷ []) x values) (on_tag (meaning (erased t) w) (meaning (erased u) w) (Pair c d))
      × Computes k (matched (arm (sides.Right q j) n ∷ arm (sides.Left p i) m ∷ []) x values) (on_tag (meaning (erased t) w) (meaning (erased u) w) (Pair c d))
  either_chosen p q i j k scope m n t u _ _ d values (OfLeft v c e) r o s told =
      let one = known_by p i k scope m t v c d values (bound p v) refl e r s told in (one, one)
  either_chosen p q i j k scope m n t u _ _ d values (OfRight v c e) r o s told =
      let one = known_by q j k scope n u v c d values (bound q v) refl e o s told in (one, one)

  option_chosen : (q : Pattern) (j k : HlType) (scope : Shape) (m n : Meaning) (t u : Declared) (x : HlValue-F HlValue) (c d : Value) (values : List Binding) → OptionOf j x c →
      Renders named given w (Both (Ignored One) scope) k m t → Renders named given w (Both (pattern_shape q j) scope) k n u → Scoped given scope values d → AreGiven named given w →
      Computes k (matched (arm sides.Nothing m ∷ arm (sides.Some q j) n ∷ []) x values) (on_tag (meaning (erased t) w) (meaning (erased u) w) (Pair c d))
      × Computes k (matched (arm (sides.Some q j) n ∷ arm sides.Nothing m ∷ []) x values) (on_tag (meaning (erased t) w) (meaning (erased u) w) (Pair c d))
  option_chosen q j k scope m n t u _ _ d values OfNothing r o s told = let one = unbound scope k m t d values r s told in (one, one)
  option_chosen q j k scope m n t u _ _ d values (OfSome v c e) r o s told =
      let one = known_by q j k scope n u v c d values (bound q v) refl e o s told in (one, one)

  bool_chosen : (k : HlType) (scope : Shape) (m n : Meaning) (t u : Declared) (x : HlValue-F HlValue) (c d : Value) (values : List Binding) → BoolOf x c →
      Renders named given w (Both (Ignored One) scope) k m t → Renders named given w (Both (Ignored One) scope) k n u → Scoped given scope values d → AreGiven named given w →
      Computes k (matched (arm sides.False m ∷ arm sides.True n ∷ []) x values) (on_tag (meaning (erased t) w) (meaning (erased u) w) (Pair c d))
      × Computes k (matched (arm sides.True n ∷ arm sides.False m ∷ []) x values) (on_tag (meaning (erased t) w) (meaning (erased u) w) (Pair c d))
  bool_chosen k scope m n t u _ _ d values (OfBool false) r o s told = let one = unbound scope k m t d values r s told in (one, one)
  bool_chosen k scope m n t u _ _ d values (OfBool true) r o s told = let one = unbound scope k n u d values o s told in (one, one)

  chosen : (x : HlType-F HlType) (left right : TypedSide) → SidesFit x left right → (l k : HlType) → out-HlType l ≡ x → (scope : Shape) (m n : Meaning) (t u : Declared) →
      Renders named given w (Both (side_shape left) scope) k m t → Renders named given w (Both (side_shape right) scope) k n u → (v : HlValue) (c d : Value) (values : List Binding) → encoded v l ≡ Some c → Scoped given scope values d → AreGiven named given w →
      Computes k (matched (arm left m ∷ arm right n ∷ []) (out-HlValue v) values) (on_tag (meaning (erased t) w) (meaning (erased u) w) (Pair c d))
      × Computes k (matched (arm right n ∷ arm left m ∷ []) (out-HlValue v) values) (on_tag (meaning (erased t) w) (meaning (erased u) w) (Pair c d))
  chosen _ _ _ (FitsEither p q i j e f) l k is scope m n t u r o v c d values h s told = either_chosen p q i j k scope m n t u (out-HlValue v) c d values (either_of v l i j c is h) r o s told
  chosen _ _ _ (FitsOption q j f) l k is scope m n t u r o v c d values h s told = option_chosen q j k scope m n t u (out-HlValue v) c d values (option_of v l j c is h) r o s told
  chosen _ _ _ FitsBool l k is scope m n t u r o v c d values h s told = bool_chosen k scope m n t u (out-HlValue v) c d values (bool_of v l c is h) r o s told

  abbrev cased : Shape → TypedSide → TypedSide → Declared → Declared → Declared → Declared
  cased scope left right e t u = comp (pair e (iden (kind_of scope))) (by_tag (kind_of (side_shape left)) (kind_of (side_shape right)) (kind_of scope) t u)

  cased_typed : (left right : TypedSide) (l k : HlType) → SidesFit (out-HlType l) left right → (scope : Shape) (a m n : Meaning) (e t u : Declared) → Renders named given w scope l a e →
      Renders named given w (Both (side_shape left) scope) k m t → Renders named given w (Both (side_shape right) scope) k n u → IsTypedTerm (cased scope left right e t u)
  cased_typed left right l k fits scope a m n e t u r o p =
      typed_comp (pair e (iden (kind_of scope))) (by_tag (kind_of (side_shape left)) (kind_of (side_shape right)) (kind_of scope) t u) (beside_scope scope l a e r)
      (typed_tag (kind_of (side_shape left)) (kind_of (side_shape right)) (kind_of scope) t u o.typed p.typed o.from p.from (p.to ∙ sym o.to))
      (ap (λ j. Product j (kind_of scope)) (r.to ∙ form_at l (out-HlType l) refl ∙ sides_form (out-HlType l) left right fits))

  pub match_left_right : (left right : TypedSide) (l k : HlType) → SidesFit (out-HlType l) left right → (scope : Shape) (a m n : Meaning) (e t u : Declared) → Renders named given w scope l a e →
      Renders named given w (Both (side_shape left) scope) k m t → Renders named given w (Both (side_shape right) scope) k n u →
      Renders named given w scope k (λ values. and_then (a values) (λ v. matched (arm left m ∷ arm right n ∷ []) (out-HlValue v) values)) (cased scope left right e t u)
  match_left_right left right l k fits scope a m n e t u r o p = record {
    from = r.from;
    to = o.to;
    typed = cased_typed left right l k fits scope a m n e t u r o p;
    computes = λ told values c s. beside_after l k (a values) (λ v. matched (arm left m ∷ arm right n ∷ []) (out-HlValue v) values) (meaning (erased e) w c) c (on_tag (meaning (erased t) w) (meaning (erased u) w)) (r.computes told values c s)
        (λ v d h. (chosen (out-HlType l) left right fits l k refl scope m n t u o p v d c values h s told).0);
  }

  pub match_right_left : (left right : TypedSide) (l k : HlType) → SidesFit (out-HlType l) left right → (scope : Shape) (a m n : Meaning) (e t u : Declared) → Renders named given w scope l a e →
      Renders named given w (Both (side_shape left) scope) k m t → Renders named given w (Both (side_shape right) scope) k n u →
      Renders named given w scope k (λ values. and_then (a values) (λ v. matched (arm right n ∷ arm left m ∷ []) (out-HlValue v) values)) (cased scope left right e t u)
  match_right_left left right l k fits scope a m n e t u r o p = record {
    from = r.from;
    to = o.to;
    typed = cased_typed left right l k fits scope a m n e t u r o p;
    computes = λ told values c s. beside_after l k (a values) (λ v. matched (arm right n ∷ arm left m ∷ []) (out-HlValue v) values) (meaning (erased e) w c) c (on_tag (meaning (erased t) w) (meaning (erased u) w)) (r.computes told values c s)
        (λ v d h. (chosen (out-HlType l) left right fits l k refl scope m n t u o p v d c values h s told).1);
  }
