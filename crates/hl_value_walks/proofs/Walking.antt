-- By induction over types: expressions of forms of values are read as they are checked.
use Rattle.std.proofs.Common.{◌≡◌, ℕ, ◌^◌, Bool, true, false, nat_eq, nat_lt, List, [], ◌∷◌, length, map, Option, Some, None, option_map, Result, Ok, Err, refl, sym, ap, ◌∙◌, subst, arith, eqb-true, eq-eqb, IsTrue}
use Rattle.std.proofs.lemmas.List.{length-map}
use Rattle.std.specs.List.{list_all}
use Rattle.hl_data.specs.declared.typed.TypedExpr.{TypedExpr}
use Rattle.hl_data.specs.declared.typed.TypedForm.{TypedForm}
use Rattle.hl_data.specs.declared.typed.TypedForm.TheVariants as typed
use Rattle.hl_data.specs.declared.value.HlValue.{HlValue}
use Rattle.hl_data.specs.declared.value.HlValue.TheVariants as value
use Rattle.hl_syntax.specs.declared.kinds.HlType.{HlType, map-HlType}
use Rattle.hl_syntax.specs.declared.kinds.HlType.TheOpen.{HlType-F}
use Rattle.hl_syntax.specs.declared.kinds.HlType.TheVariants as kind
use Rattle.hl_syntax.specs.declared.kinds.HlType.TheViews.{roll-HlType, out-HlType, out-roll-HlType}
use Rattle.hl_syntax.specs.declared.kinds.HlType.TheFolds.{fold-roll-HlType, ind-HlType}
use Rattle.hl_syntax.specs.declared.kinds.TypedName.{TypedName}
use Rattle.hl_syntax.specs.declared.rules.Rule.{Rule}
use Rattle.hl_syntax.specs.declared.rules.Rule.TheVariants.{K6, K7, K8, K9}
use Rattle.hl_syntax.specs.declared.token.Span.{Span}
use Rattle.hl_syntax.specs.declared.tree.Expr.{Expr}
use Rattle.hl_syntax.specs.declared.tree.ExprForm.TheOpen.{ExprForm-F}
use Rattle.hl_syntax.specs.declared.tree.ExprForm.TheViews.{out-ExprForm}
use Rattle.simplicityhl.specs.Kinds.{sound_step, is_sound, is_width}
use Rattle.simplicityhl.specs.Written.{Broken, breaks_rule, then_walk}
use Rattle.hl_meaning.specs.Literals.{literal_value}
use Rattle.hl_meaning.specs.Values.{beside, word_of}
use Rattle.hl_rules.specs.Exprs.{ExprWalk, form_step, expr_walk, parts_walk, items_walk}
use Rattle.hl_rules.specs.Places.{Context, Scope}
use Rattle.hl_rules.specs.Same.{same_type, same_shape}
use Rattle.hl_rules.specs.Walks.{Walk}
use Rattle.hl_values.specs.Written.{written, form_at, each_at, all_at}
use Rattle.hl_values.proofs.Reading.{unlike_counts}
use Rattle.hl_value_walks.specs.Agree.{value_step, is_value, Spells, Agree, same, neither}
use Rattle.hl_value_walks.proofs.Layers.{Layer, read_parts, read_layer, value_parts, value_layer, walked_parts, walk_layer, with_type, AreValues, both_true}
use Rattle.hl_value_walks.proofs.Spelling.{at_type, AllSpell, none_spell, more_spell, true_spells, false_spells, nothing_spells, literal_spells, some_spells, left_spells, right_spells, tuple_spells, array_spells, list_spells}

same_bool : (k : HlType) → same_type kind.Bool k ≡ same_shape HlType-F.Bool (out-HlType k)
same_bool k =
    ap (λ b. same_type b k) (sym kind.rolls-Bool)
    ∙ ap (λ (f : HlType → Bool). f k) (fold-roll-HlType (HlType → Bool) (λ shape other. same_shape shape (out-HlType other)) HlType-F.Bool)

-- A form of values, with what its parts are.

data IsForm : Layer → Type 0 where
  a_tuple : (es : List Expr) → AreValues es → IsForm (ExprForm-F.Tuple es)
  an_array : (es : List Expr) → AreValues es → IsForm (ExprForm-F.Array es)
  a_list : (es : List Expr) → AreValues es → IsForm (ExprForm-F.List es)
  a_left : (e : Expr) → IsTrue (is_value e) → IsForm (ExprForm-F.Left e)
  a_right : (e : Expr) → IsTrue (is_value e) → IsForm (ExprForm-F.Right e)
  a_some : (e : Expr) → IsTrue (is_value e) → IsForm (ExprForm-F.Some e)
  a_nothing : IsForm ExprForm-F.Nothing
  a_true : IsForm ExprForm-F.True
  a_false : IsForm ExprForm-F.False
  a_literal : (word : List ℕ) → IsForm (ExprForm-F.Literal word)

form_of : (w : Layer) → IsTrue (value_step (value_parts w)) → IsForm w
form_of (ExprForm-F.Tuple es) h = a_tuple es h
form_of (ExprForm-F.Array es) h = an_array es h
form_of (ExprForm-F.List es) h = a_list es h
form_of (ExprForm-F.Left e) h = a_left e h
form_of (ExprForm-F.Right e) h = a_right e h
form_of (ExprForm-F.Some e) h = a_some e h
form_of ExprForm-F.Nothing h = a_nothing
form_of ExprForm-F.True h = a_true
form_of ExprForm-F.False h = a_false
form_of (ExprForm-F.Literal word) h = a_literal word
form_of _ h = absurd (cc)

differ : (m n : ℕ) → nat_eq m n ≡ false → m ≡ n → ⊥
differ m n other is = let t = sym (eq-eqb m n is) ∙ other in cc

module _ (c : Context) (scope : Scope) (met : List TypedName) where
  abbrev Checked : Type 0 → Type 0
  Checked A = Result (A × List TypedName) Broken

  -- forms at a type, and parts, as `Agree` has it of expressions

  data FormAgree (k : HlType) : Option HlValue → Checked TypedForm → Type 0 where
    form_same : (v : HlValue) (form : TypedForm) → Spells (at_type k form) k v → FormAgree k (Some v) (Ok (form, met))
    form_neither : (rule : Rule) (span : Span) → FormAgree k None (Err (breaks_rule rule span))

  data AllAgree : Option (List HlValue) → Checked (List TypedExpr) → Type 0 where
    all_same : (vs : List HlValue) (found : List TypedExpr) → AllSpell found vs → AllAgree (Some vs) (Ok (found, met))
    all_neither : (rule : Rule) (span : Span) → AllAgree None (Err (breaks_rule rule span))

  of_form : (k : HlType) (o : Option HlValue) (r : Checked TypedForm) → FormAgree k o r →
      Agree k met o (then_walk r (λ found. Ok (record { kind = k; form = found.0 }, found.1)))
  of_form k _ _ (form_same v form h) = same v (at_type k form) h
  of_form k _ _ (form_neither rule span) = neither rule span

  of_part : (k l : HlType) (make : HlValue → HlValue) (form : TypedExpr → TypedForm) →
      ((e : TypedExpr) (l : HlType) (v : HlValue) → Spells e l v → Spells (at_type k (form e)) k (make v)) →
      (o : Option HlValue) (r : Checked TypedExpr) → Agree l met o r →
      FormAgree k (option_map make o) (then_walk r (λ found. Ok (form found.0, found.1)))
  of_part k l make form h _ _ (same v found s) = form_same (make v) (form found) (h found l v s)
  of_part k l make form h _ _ (neither rule span) = form_neither rule span

  of_parts : (k : HlType) (make : List HlValue → HlValue) (form : List TypedExpr → TypedForm) →
      ((es : List TypedExpr) (vs : List HlValue) → AllSpell es vs → Spells (at_type k (form es)) k (make vs)) →
      (o : Option (List HlValue)) (r : Checked (List TypedExpr)) → AllAgree o r →
      FormAgree k (option_map make o) (then_walk r (λ found. Ok (form found.0, found.1)))
  of_parts k make form h _ _ (all_same vs found s) = form_same (make vs) (form found) (h found vs s)
  of_parts k make form h _ _ (all_neither rule span) = form_neither rule span

  one_more : (l : HlType) (o : Option HlValue) (r : Checked TypedExpr) (os : Option (List HlValue)) (next : Walk (List TypedExpr)) →
      Agree l met o r → AllAgree os (next met) →
      AllAgree (beside (λ v vs. v ∷ vs) o os) (then_walk r (λ found. then_walk (next found.1) (λ rest. Ok (found.0 ∷ rest.0, rest.1))))
  one_more l _ _ os next (same v found s) h = go os (next met) h
    where
      go : (os : Option (List HlValue)) (r : Checked (List TypedExpr)) → AllAgree os r →
          AllAgree (beside (λ v vs. v ∷ vs) (Some v) os) (then_walk r (λ rest. Ok (found ∷ rest.0, rest.1)))
      go _ _ (all_same vs others t) = all_same (v ∷ vs) (found ∷ others) (more_spell found l v others vs s t)
      go _ _ (all_neither rule span) = all_neither rule span
  one_more l _ _ os next (neither rule span) h = all_neither rule span

  abbrev Claim : HlType → Type 0
  Claim k =
      IsTrue (is_sound k) → (tree : Expr) → IsTrue (is_value tree) → (rule : Rule) →
      Agree k met (written tree k) (expr_walk c tree scope k rule met)

  abbrev Proved : Type 0
  Proved = (k : HlType) × Claim k

  abbrev kind_of : Proved → HlType
  kind_of e = e.0

  abbrev AreSound : List Proved → Type 0
  AreSound parts = IsTrue (list_all (λ part. part) (map is_sound (map kind_of parts)))

  items_agree : (l : HlType) → Claim l → IsTrue (is_sound l) → (es : List Expr) → AreValues es →
      AllAgree (all_at (map written es) l) (items_walk (map (expr_walk c) es) l scope met)
  items_agree l claim sound [] h = all_same [] [] none_spell
  items_agree l claim sound (e ∷ es) h =
      let both = both_true (is_value e) (list_all (λ part. part) (map is_value es)) h in
      one_more l (written e l) (expr_walk c e scope l K6 met) (all_at (map written es) l) (items_walk (map (expr_walk c) es) l scope)
      (claim sound e both.0 K6) (items_agree l claim sound es both.1)

  parts_agree : (parts : List Proved) → AreSound parts → (es : List Expr) → AreValues es → length es ≡ length parts →
      AllAgree (each_at (map written es) (map kind_of parts)) (parts_walk (map (expr_walk c) es) (map kind_of parts) scope met)
  parts_agree [] sound [] h long = all_same [] [] none_spell
  parts_agree (p ∷ parts) sound [] h long = absurd (omega (arith, long))
  parts_agree [] sound (e ∷ es) h long = absurd (omega (arith, long))
  parts_agree (p ∷ parts) sound (e ∷ es) h long =
      let both = both_true (is_value e) (list_all (λ part. part) (map is_value es)) h in
      let sounds = both_true (is_sound p.0) (list_all (λ part. part) (map is_sound (map kind_of parts))) sound in
      one_more p.0 (written e p.0) (expr_walk c e scope p.0 K6 met)
      (each_at (map written es) (map kind_of parts)) (parts_walk (map (expr_walk c) es) (map kind_of parts) scope)
      (p.1 sounds.0 e both.0 K6) (parts_agree parts sounds.1 es both.1 (omega (arith, long)))

  -- One layer of a type.

  -- a form is read at a type of this shape as it is checked
  abbrev AgreeAt : HlType → HlType-F HlType → Layer → Span → Rule → Type 0
  AgreeAt k x w span rule = FormAgree k (form_at (read_parts w) x) (form_step c (walked_parts c w) span scope k rule met)

  abbrev Holds : HlType → HlType-F HlType → Type 0
  Holds k x = (w : Layer) → IsForm w → (span : Span) (rule : Rule) → AgreeAt k x w span rule

  module _ (k : HlType) where
    bool_holds : out-HlType k ≡ HlType-F.Bool → Holds k HlType-F.Bool
    bool_holds is _ a_true span rule = rw (same_bool k, is) (form_same (value.Bool true) typed.True (true_spells k))
    bool_holds is _ a_false span rule = rw (same_bool k, is) (form_same (value.Bool false) typed.False (false_spells k))
    bool_holds is _ _ span rule = rw is (form_neither rule span)

    number_holds : (width : ℕ) → out-HlType k ≡ HlType-F.UInt width → IsTrue (is_width width) → Holds k (HlType-F.UInt width)
    number_holds width is wide _ (a_literal word) span rule = go (nat_lt (literal_value word) (2 ^ width)) refl
      where
        go : (b : Bool) → nat_lt (literal_value word) (2 ^ width) ≡ b → AgreeAt k (HlType-F.UInt width) (ExprForm-F.Literal word) span rule
        go true less =
            rw (is, less) (form_same (word_of width (literal_value word)) (typed.Literal word) (literal_spells k width word is wide less))
        go false more = rw (is, more) (form_neither K7 span)
    number_holds width is wide _ a_true span rule = rw (same_bool k, is) (form_neither rule span)
    number_holds width is wide _ a_false span rule = rw (same_bool k, is) (form_neither rule span)
    number_holds width is wide _ _ span rule = rw is (form_neither rule span)

    tuple_holds : (parts : List Proved) → out-HlType k ≡ HlType-F.Tuple (map kind_of parts) → AreSound parts →
        Holds k (HlType-F.Tuple (map kind_of parts))
    tuple_holds parts is sound _ (a_tuple es h) span rule = go (nat_eq (length es) (length parts)) refl
      where
        go : (b : Bool) → nat_eq (length es) (length parts) ≡ b →
            AgreeAt k (HlType-F.Tuple (map kind_of parts)) (ExprForm-F.Tuple es) span rule
        go true long =
            rw (is, length-map es (expr_walk c), length-map parts kind_of, long)
            (of_parts k value.Tuple typed.Tuple (tuple_spells k) (each_at (map written es) (map kind_of parts))
            (parts_walk (map (expr_walk c) es) (map kind_of parts) scope met) (parts_agree parts sound es h (eqb-true _ _ long)))
        go false other =
            let none = unlike_counts es (map kind_of parts) (λ same. differ (length es) (length parts) other (same ∙ length-map parts kind_of)) in
            rw (is, length-map es (expr_walk c), length-map parts kind_of, other, none) (form_neither K8 span)
    tuple_holds parts is sound _ a_true span rule = rw (same_bool k, is) (form_neither rule span)
    tuple_holds parts is sound _ a_false span rule = rw (same_bool k, is) (form_neither rule span)
    tuple_holds parts is sound _ _ span rule = rw is (form_neither rule span)

    module _ (l : HlType) (claim : Claim l) (sound : IsTrue (is_sound l)) where
      array_holds : (count : ℕ) → out-HlType k ≡ HlType-F.Array l count → Holds k (HlType-F.Array l count)
      array_holds count is _ (an_array es h) span rule = go (nat_eq (length es) count) refl
        where
          go : (b : Bool) → nat_eq (length es) count ≡ b → AgreeAt k (HlType-F.Array l count) (ExprForm-F.Array es) span rule
          go true long =
              rw (is, length-map es (expr_walk c), length-map es written, long)
              (of_parts k value.Array typed.Array (array_spells k) (all_at (map written es) l)
              (items_walk (map (expr_walk c) es) l scope met) (items_agree l claim sound es h))
          go false other = rw (is, length-map es (expr_walk c), length-map es written, other) (form_neither K8 span)
      array_holds count is _ a_true span rule = rw (same_bool k, is) (form_neither rule span)
      array_holds count is _ a_false span rule = rw (same_bool k, is) (form_neither rule span)
      array_holds count is _ _ span rule = rw is (form_neither rule span)

      list_holds : (bound : ℕ) → out-HlType k ≡ HlType-F.List l bound → Holds k (HlType-F.List l bound)
      list_holds bound is _ (a_list es h) span rule = go (nat_lt (length es) bound) refl
        where
          go : (b : Bool) → nat_lt (length es) bound ≡ b → AgreeAt k (HlType-F.List l bound) (ExprForm-F.List es) span rule
          go true less =
              rw (is, length-map es (expr_walk c), length-map es written, less)
              (of_parts k value.List typed.List (list_spells k) (all_at (map written es) l)
              (items_walk (map (expr_walk c) es) l scope met) (items_agree l claim sound es h))
          go false more = rw (is, length-map es (expr_walk c), length-map es written, more) (form_neither K9 span)
      list_holds bound is _ a_true span rule = rw (same_bool k, is) (form_neither rule span)
      list_holds bound is _ a_false span rule = rw (same_bool k, is) (form_neither rule span)
      list_holds bound is _ _ span rule = rw is (form_neither rule span)

      option_holds : out-HlType k ≡ HlType-F.Option l → Holds k (HlType-F.Option l)
      option_holds is _ a_nothing span rule = rw is (form_same value.Nothing typed.Nothing (nothing_spells k))
      option_holds is _ (a_some e h) span rule =
          rw is (of_part k l value.Some typed.Some (some_spells k) (written e l) (expr_walk c e scope l K6 met) (claim sound e h K6))
      option_holds is _ a_true span rule = rw (same_bool k, is) (form_neither rule span)
      option_holds is _ a_false span rule = rw (same_bool k, is) (form_neither rule span)
      option_holds is _ _ span rule = rw is (form_neither rule span)

      module _ (m : HlType) (claim' : Claim m) (sound' : IsTrue (is_sound m)) where
        either_holds : out-HlType k ≡ HlType-F.Either l m → Holds k (HlType-F.Either l m)
        either_holds is _ (a_left e h) span rule =
            rw is (of_part k l value.Left typed.Left (left_spells k) (written e l) (expr_walk c e scope l K6 met) (claim sound e h K6))
        either_holds is _ (a_right e h) span rule =
            rw is (of_part k m value.Right typed.Right (right_spells k) (written e m) (expr_walk c e scope m K6 met) (claim' sound' e h K6))
        either_holds is _ a_true span rule = rw (same_bool k, is) (form_neither rule span)
        either_holds is _ a_false span rule = rw (same_bool k, is) (form_neither rule span)
        either_holds is _ _ span rule = rw is (form_neither rule span)

  layer_holds : (y : HlType-F Proved) (k : HlType) → out-HlType k ≡ map-HlType Proved HlType kind_of y →
      IsTrue (sound_step (map-HlType HlType Bool is_sound (map-HlType Proved HlType kind_of y))) →
      Holds k (map-HlType Proved HlType kind_of y)
  layer_holds HlType-F.Bool k is s = bool_holds k is
  layer_holds (HlType-F.UInt width) k is s = number_holds k width is s
  layer_holds (HlType-F.Tuple parts) k is s = tuple_holds k parts is s
  layer_holds (HlType-F.Array item count) k is s = array_holds k item.0 item.1 (both_true _ _ s).0 count is
  layer_holds (HlType-F.List item bound) k is s = list_holds k item.0 item.1 (both_true _ _ s).0 bound is
  layer_holds (HlType-F.Option item) k is s = option_holds k item.0 item.1 s is
  layer_holds (HlType-F.Either left right) k is s =
      let both = both_true _ _ s in either_holds k left.0 left.1 both.0 right.0 right.1 both.1 is

  claim_layer : (y : HlType-F Proved) → Claim (roll-HlType (map-HlType Proved HlType kind_of y))
  claim_layer y sound tree h rule =
      let x = map-HlType Proved HlType kind_of y in
      let k = roll-HlType x in
      let w = out-ExprForm tree.form in
      let s = rw (fold-roll-HlType Bool sound_step x) at sound in
      let reads : written tree k ≡ form_at (read_parts w) x = read_layer tree k ∙ ap (form_at (read_parts w)) (out-roll-HlType x) in
      let walks : expr_walk c tree scope k rule met ≡ with_type c tree.span (form_step c (walked_parts c w)) scope k rule met =
      ap (λ (f : ExprWalk). f scope k rule met) (walk_layer c tree) in
      let held = layer_holds y k (out-roll-HlType x) s w (form_of w (subst IsTrue (value_layer tree) h)) tree.span rule in
      subst (λ o. Agree k met o (expr_walk c tree scope k rule met)) (sym reads)
      (subst (λ r. Agree k met (form_at (read_parts w) x) r) (sym walks)
      (of_form k (form_at (read_parts w) x) (form_step c (walked_parts c w) tree.span scope k rule met) held))

  pub agree : (k : HlType) → Claim k
  agree = ind-HlType Claim (λ x y is. subst (λ z. Claim (roll-HlType z)) is (claim_layer y))
