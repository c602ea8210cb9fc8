-- The term of a value gives its encoding.
use Rattle.std.proofs.Common.{◌≡◌, ℕ, zero, suc, ◌^◌, ◌<◌, Bool, true, false, ◌&&◌, nat_lt, nat_eq, eqb-true, List, [], ◌∷◌, length, take, drop, map, replicate, Option, Some, None, option_map, refl, sym, ap, ◌∙◌, subst, arith, ltb-true, length-drop}
use Rattle.std.specs.Prelude.{if◌then◌else◌, option_and_then}
use Rattle.std.proofs.lemmas.List.{length-map}
use Rattle.std.proofs.Math.Nat.{pow-succ'}
use Rattle.hl_data.specs.declared.value.HlValue.{HlValue, map-HlValue}
use Rattle.hl_data.specs.declared.value.HlValue.TheFolds.{fold-roll-HlValue, ind-HlValue}
use Rattle.hl_data.specs.declared.value.HlValue.TheOpen.{HlValue-F}
use Rattle.hl_data.specs.declared.value.HlValue.TheViews.{roll-HlValue}
use Rattle.hl_syntax.specs.declared.kinds.HlType.{HlType}
use Rattle.hl_syntax.specs.declared.kinds.HlType.TheOpen.{HlType-F}
use Rattle.hl_syntax.specs.declared.kinds.HlType.TheViews.{out-HlType}
use Rattle.hl_syntax.specs.declared.kinds.TypedName.{TypedName}
use Rattle.jets.specs.Unsigned.{Unsigned}
use Rattle.hl_meaning.specs.Answer.{gives}
use Rattle.hl_meaning.specs.Scopes.{Binding}
use Rattle.hl_meaning.specs.Values.{Encoding, encoded, encode_step, encode_at, at_each, at_all, list_value, is_number_of}
use Rattle.simplicity.specs.Canon.{Declared, erased}
use Rattle.simplicity.specs.Terms.{meaning}
use Rattle.simplicity.specs.Tuples.{tuple_value, tuple_kind, copies_kind}
use Rattle.simplicity.specs.Types.{Kind, One, Sum, Value, UnitValue, Inl, Inr, Pair, word_kind, word_value}
use Rattle.simplicity.specs.Widths.{level_of}
use Rattle.simplicityhl.specs.Kinds.{form, bound_level}
use Rattle.simplicity.specs.Arrows.{IsTypedTerm}
use Rattle.simplicity.specs.Arrows as row
use Rattle.hl_term_laws.specs.Renders.{Renders}
use Rattle.simplicity.specs.Arrows.{source, target}
use Rattle.simplicity.specs.Makes.{unit, comp, word, to_left, to_right, tuple}
use Rattle.hl_terms.specs.Shapes.{Shape, kind_of}
use Rattle.hl_terms.specs.Translated.{ValueTerm, value_term, value_at, each_value, all_values, list_term}
use Rattle.hl_term_laws.proofs.Encoded.{form_at, some_same, mapped}
use Rattle.hl_term_laws.proofs.Lists.{answer_list, list_meaning, some_list, AreItems, list_right}
use Rattle.hl_term_laws.proofs.Parts.{Piece, Pieces, tuple_right, answer_tuple, all_some, tuple_meaning}
use Rattle.hl_term_laws.proofs.Patterns.{besides}
use Rattle.simplicity.proofs.Arrows.{typed_comp, typed_left, typed_right}

-- a term that gives one value on each input of a type
pub record Gives (a k : Kind) (c : Value) (t : Declared) : Type 0 where
  pub from : source t ≡ a
  pub to : target t ≡ k
  pub typed : IsTypedTerm t
  pub means : (w : List Value) (u : Value) → meaning (erased t) w u ≡ Some c

abbrev Claim : HlValue → Type 0
Claim v = (k : HlType) (c : Value) → encoded v k ≡ Some c → (a : Kind) → Gives a (form k) c (value_term v k a)

abbrev Proved : Type 0
Proved = (v : HlValue) × Claim v

abbrev first : Proved → HlValue
first e = e.0

record Parts (a : Kind) (ks : List Kind) (cs : List Value) (ts : List Declared) : Type 0 where
  pieces : Pieces a ts ks
  means : (w : List Value) (u : Value) → map (λ t. meaning (erased t) w u) ts ≡ map Some cs
  long : length ts ≡ length cs

no_parts : (a : Kind) → Parts a [] [] []
no_parts a = record { pieces = record { pieces = []; terms = refl; kinds = refl }; means = λ w u. refl; long = refl }

one_more : (a k : Kind) (c : Value) (t : Declared) (ks : List Kind) (cs : List Value) (ts : List Declared) → Gives a k c t → Parts a ks cs ts → Parts a (k ∷ ks) (c ∷ cs) (t ∷ ts)
one_more a k c t ks cs ts g p = record {
  pieces = record {
    pieces = record { term = t; kind = k; from = g.from; to = g.to; typed = g.typed } ∷ p.pieces.pieces;
    terms = ap (λ l. t ∷ l) p.pieces.terms;
    kinds = ap (λ l. k ∷ l) p.pieces.kinds;
  };
  means = λ w u. ap (λ o. o ∷ map (λ t. meaning (erased t) w u) ts) (g.means w u) ∙ ap (λ l. Some c ∷ l) (p.means w u);
  long = ap suc p.long;
}

together : (a : Kind) (ks : List Kind) (cs : List Value) (ts : List Declared) → Parts a ks cs ts → Gives a (tuple_kind ks) (tuple_value cs) (tuple a ts)
together a ks cs ts p =
    let t = tuple_right a ts ks p.pieces in
    record { from = t.from; to = t.to; typed = t.typed; means = λ w u. tuple_meaning a w u ts ∙ ap answer_tuple (p.means w u) ∙ all_some cs }

at_type : (a j k : Kind) (c d : Value) (t : Declared) → j ≡ k → c ≡ d → Gives a j c t → Gives a k d t
at_type a j k c d t e f g = subst (λ k. Gives a k d t) e (subst (λ d. Gives a j d t) f g)

each_part : (a : Kind) (vs : List Proved) (ks : List HlType) (cs : List Value) → at_each (map encoded (map first vs)) ks ≡ Some cs → Parts a (map form ks) cs (each_value (map value_term (map first vs)) ks a)
each_part a [] [] cs e = subst (λ ds. Parts a [] ds []) (some_same [] cs e) (no_parts a)
each_part a [] (k ∷ ks) cs e = absurd (cc)
each_part a (v ∷ vs) [] cs e = absurd (cc)
each_part a (v ∷ vs) (k ∷ ks) cs e =
    let b = besides (λ c cs. c ∷ cs) (encoded v.0 k) (at_each (map encoded (map first vs)) ks) cs e in
    subst (λ ds. Parts a (map form (k ∷ ks)) ds (each_value (map value_term (map first (v ∷ vs))) (k ∷ ks) a)) b.is
    (one_more a (form k) b.first (value_term v.0 k a) (map form ks) b.second (each_value (map value_term (map first vs)) ks a) (v.1 k b.first b.first_is a) (each_part a vs ks b.second b.second_is))

all_parts : (a : Kind) (vs : List Proved) (item : HlType) (cs : List Value) → at_all (map encoded (map first vs)) item ≡ Some cs → Parts a (replicate (length vs) (form item)) cs (all_values (map value_term (map first vs)) item a)
all_parts a [] item cs e = subst (λ ds. Parts a [] ds []) (some_same [] cs e) (no_parts a)
all_parts a (v ∷ vs) item cs e =
    let b = besides (λ y ys. y ∷ ys) (encoded v.0 item) (at_all (map encoded (map first vs)) item) cs e in
    subst (λ ds. Parts a (replicate (suc (length vs)) (form item)) ds (all_values (map value_term (map first (v ∷ vs))) item a)) b.is
    (one_more a (form item) b.first (value_term v.0 item a) (replicate (length vs) (form item)) b.second (all_values (map value_term (map first vs)) item a) (v.1 item b.first b.first_is a) (all_parts a vs item b.second b.second_is))

there : (b : Bool) (o : Option Value) (c : Value) → (if b then o else None) ≡ Some c → (b ≡ true) × (o ≡ Some c)
there true o c e = (refl, e)
there false o c e = absurd (cc)

both : (a b : Bool) → a && b ≡ true → (a ≡ true) × (b ≡ true)
both true b h = (refl, h)
both false b h = absurd (cc)

word_gives : (a : Kind) (k : HlType) (u : Unsigned) (width : ℕ) (c : Value) → out-HlType k ≡ HlType-F.UInt width → (if is_number_of width u then Some (word_value (level_of width) u.number) else None) ≡ Some c → Gives a (form k) c (comp (unit a) (word (level_of u.width) u.number))
word_gives a k u width c is e =
    let t = there (is_number_of width u) (Some (word_value (level_of width) u.number)) c e in
    let same : u.width ≡ width = eqb-true u.width width (both (nat_eq u.width width) (nat_lt u.number (2 ^ width)) t.0).0 in
    at_type a (word_kind (level_of u.width)) (form k) (word_value (level_of u.width) u.number) c (comp (unit a) (word (level_of u.width) u.number))
    (ap (λ n. word_kind (level_of n)) same ∙ sym (form_at k (HlType-F.UInt width) is)) (ap (λ n. word_value (level_of n) u.number) same ∙ some_same (word_value (level_of width) u.number) c t.1)
    (record { from = refl; to = refl; typed = typed_comp (unit a) (word (level_of u.width) u.number) (row.UnitTerm a) (row.Word (level_of u.width) u.number) refl; means = λ w v. refl })

left_gives : (a i j : Kind) (c : Value) (t : Declared) → Gives a i c t → Gives a (Sum i j) (Inl c) (to_left j t)
left_gives a i j c t g = record { from = g.from; to = ap (λ k. Sum k j) g.to; typed = typed_left j t g.typed; means = λ w u. rw (g.means w u) refl }

right_gives : (a i j : Kind) (c : Value) (t : Declared) → Gives a j c t → Gives a (Sum i j) (Inr c) (to_right i t)
right_gives a i j c t g = record { from = g.from; to = ap (Sum i) g.to; typed = typed_right i t g.typed; means = λ w u. rw (g.means w u) refl }

unit_gives : (a : Kind) → Gives a One UnitValue (unit a)
unit_gives a = record { from = refl; to = refl; typed = row.UnitTerm a; means = λ w u. refl }

-- a list that is encoded is short enough
short_by : (level : ℕ) (cs : List Value) (c : Value) → ((c : Value) → list_value level cs ≡ Some c → length cs < 2 ^ suc level) → ((c : Value) → list_value level (drop (2 ^ suc level) cs) ≡ Some c → length (drop (2 ^ suc level) cs) < 2 ^ suc level) →
    (b : Bool) → nat_lt (length cs) (2 ^ suc level) ≡ b → (if b then option_map (Pair (Inl UnitValue)) (list_value level cs) else option_map (Pair (Inr (tuple_value (take (2 ^ suc level) cs)))) (list_value level (drop (2 ^ suc level) cs))) ≡ Some c → length cs < 2 ^ suc (suc level)
short_by level cs c f g true is e = omega (arith, pow-succ' 2 (suc level), ltb-true (length cs) (2 ^ suc level) is)
short_by level cs c f g false is e =
    let m = mapped (Pair (Inr (tuple_value (take (2 ^ suc level) cs)))) (list_value level (drop (2 ^ suc level) cs)) c e in
    omega (arith, pow-succ' 2 (suc level), g m.from m.was, length-drop (2 ^ suc level) cs)

short : (level : ℕ) (cs : List Value) (c : Value) → list_value level cs ≡ Some c → length cs < 2 ^ suc level
short zero [] c e = omega arith
short zero (v ∷ []) c e = omega arith
short zero (v ∷ u ∷ cs) c e = absurd (cc)
short (suc level) cs c e = short_by level cs c (short level cs) (short level (drop (2 ^ suc level) cs)) (nat_lt (length cs) (2 ^ suc level)) refl e

items_of : (a item : Kind) (n : ℕ) (ts : List Declared) → Pieces a ts (replicate n item) → AreItems a item ts
items_of a item n ts p = subst (AreItems a item) p.terms (by p.pieces n p.kinds)
  where
    by : (ps : List (Piece a)) (n : ℕ) → map (λ (p : Piece a). p.kind) ps ≡ replicate n item → AreItems a item (map (λ (p : Piece a). p.term) ps)
    by [] n e = tt
    by (q ∷ ps) zero e = absurd (cc)
    by (q ∷ ps) (suc n) e = let k : q.kind ≡ item = cc in let r : map (λ (p : Piece a). p.kind) ps ≡ replicate n item = cc in (record { from = q.from; to = q.to ∙ k; typed = q.typed }, by ps n r)

list_gives : (a : Kind) (vs : List Proved) (item : HlType) (bound : ℕ) (k : HlType) (c : Value) (cs : List Value) → out-HlType k ≡ HlType-F.List item bound → at_all (map encoded (map first vs)) item ≡ Some cs → list_value (bound_level bound) cs ≡ Some c →
    Gives a (form k) c (list_term a (form item) (bound_level bound) (all_values (map value_term (map first vs)) item a))
list_gives a vs item bound k c cs is found e =
    let ts = all_values (map value_term (map first vs)) item a in
    let p = all_parts a vs item cs found in
    let r = list_right a (form item) (bound_level bound) ts (items_of a (form item) (length vs) ts p.pieces) in
    record {
      from = r.from;
      to = r.to ∙ sym (form_at k (HlType-F.List item bound) is);
      typed = r.typed;
      means = λ w u. list_meaning a (form item) w u (bound_level bound) ts ∙ ap (answer_list (bound_level bound)) (p.means w u) ∙ some_list (bound_level bound) cs (short (bound_level bound) cs c e) ∙ e;
    }

value_layer : (y : HlValue-F Proved) (x : HlType-F HlType) (k : HlType) → out-HlType k ≡ x → (c : Value) → encode_at (map-HlValue HlValue Encoding encoded (map-HlValue Proved HlValue first y)) x ≡ Some c → (a : Kind) →
    Gives a (form k) c (value_at (map-HlValue HlValue ValueTerm value_term (map-HlValue Proved HlValue first y)) x a)
value_layer (HlValue-F.Bool false) HlType-F.Bool k is c e a = at_type a (Sum One One) (form k) (Inl UnitValue) c (to_left One (unit a)) (sym (form_at k HlType-F.Bool is)) (some_same (Inl UnitValue) c e) (left_gives a One One UnitValue (unit a) (unit_gives a))
value_layer (HlValue-F.Bool true) HlType-F.Bool k is c e a = at_type a (Sum One One) (form k) (Inr UnitValue) c (to_right One (unit a)) (sym (form_at k HlType-F.Bool is)) (some_same (Inr UnitValue) c e) (right_gives a One One UnitValue (unit a) (unit_gives a))
value_layer (HlValue-F.Number u) (HlType-F.UInt width) k is c e a = word_gives a k u width c is e
value_layer (HlValue-F.Tuple vs) (HlType-F.Tuple ks) k is c e a =
    let m = mapped tuple_value (at_each (map encoded (map first vs)) ks) c e in
    at_type a (tuple_kind (map form ks)) (form k) (tuple_value m.from) c _ (sym (form_at k (HlType-F.Tuple ks) is)) m.is (together a (map form ks) m.from (each_value (map value_term (map first vs)) ks a) (each_part a vs ks m.from m.was))
value_layer (HlValue-F.Array vs) (HlType-F.Array item count) k is c e a =
    let t = there (nat_eq (length (map encoded (map first vs))) count) (option_map tuple_value (at_all (map encoded (map first vs)) item)) c e in
    let m = mapped tuple_value (at_all (map encoded (map first vs)) item) c t.1 in
    let long : length vs ≡ count = sym (length-map vs first) ∙ sym (length-map (map first vs) encoded) ∙ eqb-true (length (map encoded (map first vs))) count t.0 in
    at_type a (copies_kind (length vs) (form item)) (form k) (tuple_value m.from) c _ (ap (λ n. copies_kind n (form item)) long ∙ sym (form_at k (HlType-F.Array item count) is)) m.is
    (together a (replicate (length vs) (form item)) m.from (all_values (map value_term (map first vs)) item a) (all_parts a vs item m.from m.was))
value_layer HlValue-F.Nothing (HlType-F.Option item) k is c e a = at_type a (Sum One (form item)) (form k) (Inl UnitValue) c (to_left (form item) (unit a)) (sym (form_at k (HlType-F.Option item) is)) (some_same (Inl UnitValue) c e) (left_gives a One (form item) UnitValue (unit a) (unit_gives a))
value_layer (HlValue-F.Some v) (HlType-F.Option item) k is c e a =
    let m = mapped Inr (encoded v.0 item) c e in at_type a (Sum One (form item)) (form k) (Inr m.from) c (to_right One (value_term v.0 item a)) (sym (form_at k (HlType-F.Option item) is)) m.is (right_gives a One (form item) m.from (value_term v.0 item a) (v.1 item m.from m.was a))
value_layer (HlValue-F.Left v) (HlType-F.Either left right) k is c e a =
    let m = mapped Inl (encoded v.0 left) c e in at_type a (Sum (form left) (form right)) (form k) (Inl m.from) c (to_left (form right) (value_term v.0 left a)) (sym (form_at k (HlType-F.Either left right) is)) m.is (left_gives a (form left) (form right) m.from (value_term v.0 left a) (v.1 left m.from m.was a))
value_layer (HlValue-F.Right v) (HlType-F.Either left right) k is c e a =
    let m = mapped Inr (encoded v.0 right) c e in at_type a (Sum (form left) (form right)) (form k) (Inr m.from) c (to_right (form left) (value_term v.0 right a)) (sym (form_at k (HlType-F.Either left right) is)) m.is (right_gives a (form left) (form right) m.from (value_term v.0 right a) (v.1 right m.from m.was a))
value_layer (HlValue-F.List vs) (HlType-F.List item bound) k is c e a = listed (at_all (map encoded (map first vs)) item) refl e
  where
    listed : (o : Option (List Value)) → at_all (map encoded (map first vs)) item ≡ o → option_and_then (list_value (bound_level bound)) o ≡ Some c → Gives a (form k) c (list_term a (form item) (bound_level bound) (all_values (map value_term (map first vs)) item a))
    listed (Some cs) found e = list_gives a vs item bound k c cs is found e
    listed None found e = absurd (cc)
value_layer _ _ k is c e a = absurd (cc)

pub value_gives : (v : HlValue) → Claim v
value_gives = ind-HlValue Claim (λ x y is. subst (λ z. Claim (roll-HlValue z)) is (λ k c e a.
    let z = map-HlValue Proved HlValue first y in
    let enc : encoded (roll-HlValue z) k ≡ encode_at (map-HlValue HlValue Encoding encoded z) (out-HlType k) = ap (λ (f : Encoding). f k) (fold-roll-HlValue Encoding encode_step z) in
    let term : value_term (roll-HlValue z) k a ≡ value_at (map-HlValue HlValue ValueTerm value_term z) (out-HlType k) a = ap (λ (f : ValueTerm). f k a) (fold-roll-HlValue ValueTerm (λ x kind. value_at x (out-HlType kind)) z) in
    subst (Gives a (form k) c) (sym term) (value_layer y (out-HlType k) k refl c (sym enc ∙ e) a)))

pub value_right : (named : List TypedName) (given : List Binding) (w : List Value) (scope : Shape) (v : HlValue) (k : HlType) (c : Value) → encoded v k ≡ Some c → Renders named given w scope k (λ values. gives v) (value_term v k (kind_of scope))
value_right named given w scope v k c e =
    let g = value_gives v k c e (kind_of scope) in
    record { from = g.from; to = g.to; typed = g.typed; computes = λ told values u s. record { core = c; encodes = e; is = g.means w u } }
