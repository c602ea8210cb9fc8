-- Core values that are decoded one after the other.
use Rattle.std.proofs.Common.{◌≡◌, ℕ, zero, suc, ◌+◌, ◌/◌, ◌^◌, ◌<◌, ◌≤◌, Bool, true, false, ◌&&◌, nat_eq, nat_lt, List, [], ◌∷◌, ◌++◌, length, map, take, get_or, Some, refl, sym, ap, ◌∙◌, arith, IsTrue, eq-eqb, eqb-true, ltb-true}
use Rattle.std.specs.List.{list_all, list_any, All}
use Rattle.std.proofs.lemmas.Bool.{lt-ltb}
use Rattle.std.proofs.lemmas.List.{take_more, take_all, get_or-map, length-map}
use denote.Bor.{Bor}
use Rattle.core_data.specs.declared.data.CoreValue.{CoreValue}
use Rattle.core_data.specs.Data.{value_of}
use Rattle.hl_data.specs.declared.value.HlValue.{HlValue}
use Rattle.hl_data.specs.declared.value.HlValue.TheOpen.{HlValue-F}
use Rattle.hl_data.specs.declared.value.HlValue.TheVariants as value
use Rattle.hl_syntax.specs.declared.kinds.HlType.{HlType}
use Rattle.hl_syntax.specs.declared.kinds.HlType.TheOpen.{HlType-F}
use Rattle.hl_syntax.specs.declared.kinds.HlType.TheFolds.{fold-roll-HlType}
use Rattle.hl_syntax.specs.declared.kinds.HlType.TheVariants as kind
use Rattle.jets.specs.Unsigned as jets
use Rattle.jets.specs.Unsigned.{Unsigned, IsUnsigned}
use Rattle.simplicity.specs.Types.{Kind, One, Sum, Value, Inl, IsOf, AreOf, bit_value, word_value, word_kind, word_count, is_odd}
use Rattle.simplicity.specs.Tuples.{tuple_value, tuple_kind, copies_kind}
use Rattle.simplicity.specs.Widths.{level_of}
use Rattle.simplicityhl.specs.Kinds.{form, form_step, sound_step, is_count, is_width, is_bound, bound_level, list_kind, IsSound}
use Rattle.hl_types.proofs.Parts.{form-Tuple, form-List, sound-Tuple, sound-List}
use Rattle.hl_meaning.specs.Values.{encoded, at_all, at_each, list_value, is_number_of}
use Rattle.hl_values.specs.Leaves.{lent, IsTuple, IsList, PushesParts, PushesItems}
use Rattle.simplicityhl.specs.Kinds.{is_sound}
use Rattle.hl_values.proofs.Codecs.{Good, AllGood, no_good, more_good, Encodes, no_parts, more_parts, kinds, tuple_back, encodes_length, one_parts}
use Rattle.hl_values.proofs.Coding.{codec, sound_good, besides, kinds_map, encode_rolled}
use Rattle.hl_values.proofs.Encoding.{encoded-Tuple, encoded-Array, encoded-List}
use Rattle.hl_values.proofs.Lists.{Each, no_items, more_items, copies_back, list_back}
use Rattle.hl_values.proofs.Words.{word_back, width_count}

-- the values that were decoded are encoded in the first leaves
pub record HasDecodedParts (leaves : List (Bor CoreValue)) (ks : List HlType) (place : ℕ) (values : List HlValue) : Type 0 where
  pub are : at_each (map encoded values) (take place ks) ≡ Some (take place (lent leaves))

pub record HasDecodedItems (leaves : List (Bor CoreValue)) (k : HlType) (place : ℕ) (values : List HlValue) : Type 0 where
  pub are : at_all (map encoded values) k ≡ Some (take place (lent leaves))

both_true : (a b : Bool) → IsTrue (a && b) → IsTrue a × IsTrue b
both_true true b h = (refl, h)
both_true false b h = cc

at_all_long : (vs : List HlValue) (k : HlType) (cs : List Value) → at_all (map encoded vs) k ≡ Some cs → length vs ≡ length cs
at_all_long [] k cs h = let e : cs ≡ [] = cc in rw e refl
at_all_long (v ∷ vs) k cs h =
    let b = besides (λ d ds. d ∷ ds) (encoded v k) (at_all (map encoded vs) k) cs h in
    rw b.is (ap suc (at_all_long vs k b.right b.right_was))

form-Array : (item : HlType) (count : ℕ) → form (kind.Array item count) ≡ copies_kind count (form item)
form-Array item count = ap form (sym (kind.rolls-Array item count)) ∙ fold-roll-HlType Kind form_step (HlType-F.Array item count)

sound-Array : (item : HlType) (count : ℕ) → is_sound (kind.Array item count) ≡ (is_sound item && is_count count)
sound-Array item count = ap is_sound (sym (kind.rolls-Array item count)) ∙ fold-roll-HlType Bool sound_step (HlType-F.Array item count)

-- words

is_listed : (q : ℕ → Bool) (n : ℕ) (xs : List ℕ) → list_all q xs ≡ true → list_any (nat_eq n) xs ≡ true → q n ≡ true
is_listed q n [] all any = cc
is_listed q n (x ∷ xs) all any =
    let parts = both_true (q x) (list_all q xs) all in
    elim (nat_eq n x) as (λ b. nat_eq n x ≡ b → q n ≡ true) [
      | true ↦ λ e. let same : n ≡ x = eqb-true n x e in rw same parts.0
      | false ↦ λ e. is_listed q n xs parts.1 (rw e at any)
    ] refl

width_level : (n : ℕ) → IsTrue (jets.is_width n) → n ≡ 2 ^ level_of n
width_level n h = eqb-true n (2 ^ level_of n) (is_listed (λ m. nat_eq m (2 ^ level_of m)) n (1 ∷ 2 ∷ 4 ∷ 8 ∷ 16 ∷ 32 ∷ 64 ∷ 128 ∷ 256 ∷ []) refl h)

-- a word is of one word type alone
one_level : (j k n : ℕ) → IsOf (word_value j n) (word_kind k) → j ≡ k
one_level zero zero n h = refl
one_level zero (suc k) n h = absurd (no_bit (is_odd n) h)
  where
    no_bit : (b : Bool) → IsOf (bit_value b) (word_kind (suc k)) → ⊥
    no_bit true h = h
    no_bit false h = h
one_level (suc j) zero n h = absurd h
one_level (suc j) (suc k) n h = ap suc (one_level j k (n / word_count j) h.0)

level_bound : (width : ℕ) → IsTrue (is_width width) → level_of width ≤ 8
level_bound width h = let e = ltb-true (level_of width) 9 (both width h) in omega arith
  where
    both : (width : ℕ) → IsTrue (is_width width) → nat_lt (level_of width) 9 ≡ true
    both width h = first_true _ _ h
      where
        first_true : (a b : Bool) → (a && b) ≡ true → a ≡ true
        first_true true b h = refl
        first_true false b h = cc

pub no_word : (v : Value) (width : ℕ) → IsTrue (is_width width) → IsOf v (word_kind (level_of width)) → ((level : ℕ) → level ≤ 8 → (n : ℕ) → v ≡ word_value level n → ⊥) → ⊥
no_word v width sound of none = let b = word_back (level_of width) v of in none (level_of width) (level_bound width sound) b.number (sym b.is)

pub word_found : (v : Value) (width : ℕ) (u : Unsigned) → IsTrue (is_width width) → IsOf v (word_kind (level_of width)) → v ≡ word_value (level_of u.width) u.number → IsUnsigned u →
    (v ≡ word_value (level_of width) u.number) × IsTrue (is_number_of width u)
word_found v width u sound of is fits =
    let of' : IsOf (word_value (level_of u.width) u.number) (word_kind (level_of width)) = rw is at of in
    let level : level_of u.width ≡ level_of width = one_level (level_of u.width) (level_of width) u.number of' in
    let same : u.width ≡ width = width_level u.width fits.width ∙ ap (λ l. 2 ^ l) level ∙ sym (width_count width sound) in
    let less : u.number < 2 ^ width = rw (← same) fits.fits in
    (is ∙ ap (λ l. word_value l u.number) level, rw (eq-eqb u.width width same, lt-ltb u.number (2 ^ width) less) refl)

-- one more value

at_each_push : (vs : List HlValue) (ks : List HlType) (cs : List Value) (v : HlValue) (k : HlType) (c : Value) → at_each (map encoded vs) ks ≡ Some cs → encoded v k ≡ Some c →
    at_each (map encoded (vs ++ v ∷ [])) (ks ++ k ∷ []) ≡ Some (cs ++ c ∷ [])
at_each_push [] [] cs v k c h one = let e : cs ≡ [] = cc in rw (one, e) refl
at_each_push [] (l ∷ ks) cs v k c h one = absurd (cc)
at_each_push (w ∷ vs) [] cs v k c h one = absurd (cc)
at_each_push (w ∷ vs) (l ∷ ks) cs v k c h one =
    let b = besides (λ d ds. d ∷ ds) (encoded w l) (at_each (map encoded vs) ks) cs h in
    rw (b.left_was, at_each_push vs ks b.right v k c b.right_was one) (ap (λ ds. Some (ds ++ c ∷ [])) (sym b.is))

at_all_push : (vs : List HlValue) (k : HlType) (cs : List Value) (v : HlValue) (c : Value) → at_all (map encoded vs) k ≡ Some cs → encoded v k ≡ Some c → at_all (map encoded (vs ++ v ∷ [])) k ≡ Some (cs ++ c ∷ [])
at_all_push [] k cs v c h one = let e : cs ≡ [] = cc in rw (one, e) refl
at_all_push (w ∷ vs) k cs v c h one =
    let b = besides (λ d ds. d ∷ ds) (encoded w k) (at_all (map encoded vs) k) cs h in
    rw (b.left_was, at_all_push vs k b.right v c b.right_was one) (ap (λ ds. Some (ds ++ c ∷ [])) (sym b.is))

lent_more : (leaves : List (Bor CoreValue)) (i : ℕ) (leaf : Bor CoreValue) → i < length leaves → leaf ≡ get_or leaves i leaf → take (i + 1) (lent leaves) ≡ take i (lent leaves) ++ value_of leaf.now ∷ []
lent_more leaves i leaf less is =
    let long = length-map leaves (λ (b : Bor CoreValue). value_of b.now) in
    take_more (lent leaves) i (value_of leaf.now) (omega (arith, long))
    ∙ ap (λ v. take i (lent leaves) ++ v ∷ []) (get_or-map (λ (b : Bor CoreValue). value_of b.now) leaves i leaf (value_of leaf.now) less ∙ ap (λ (b : Bor CoreValue). value_of b.now) (sym is))

pub part_decoded : (leaves : List (Bor CoreValue)) (ks : List HlType) (i : ℕ) (values : List HlValue) (leaf : Bor CoreValue) (k : HlType) (v : HlValue) → HasDecodedParts leaves ks i values → i < length leaves →
    leaf ≡ get_or leaves i leaf → i < length ks → k ≡ get_or ks i k → encoded v k ≡ Some (value_of leaf.now) → HasDecodedParts leaves ks (i + 1) (values ++ v ∷ [])
part_decoded leaves ks i values leaf k v h less is less' is' one = record {
  are =
      let types : take (i + 1) ks ≡ take i ks ++ k ∷ [] = take_more ks i k less' ∙ ap (λ l. take i ks ++ l ∷ []) (sym is') in
      rw (types, lent_more leaves i leaf less is) (at_each_push values (take i ks) (take i (lent leaves)) v k (value_of leaf.now) h.are one);
}

pub item_decoded : (leaves : List (Bor CoreValue)) (k : HlType) (i : ℕ) (values : List HlValue) (leaf : Bor CoreValue) (v : HlValue) → HasDecodedItems leaves k i values → i < length leaves →
    leaf ≡ get_or leaves i leaf → encoded v k ≡ Some (value_of leaf.now) → HasDecodedItems leaves k (i + 1) (values ++ v ∷ [])
item_decoded leaves k i values leaf v h less is one = record {
  are = rw (lent_more leaves i leaf less is) (at_all_push values k (take i (lent leaves)) v (value_of leaf.now) h.are one);
}

pub are_long : (cs : List Value) (ks : List HlType) → AreOf cs (map form ks) → length cs ≡ length ks
are_long [] [] h = refl
are_long [] (k ∷ ks) h = absurd h
are_long (c ∷ cs) [] h = absurd h
are_long (c ∷ cs) (k ∷ ks) h = ap suc (are_long cs ks h.1)

pub lent_long : (leaves : List (Bor CoreValue)) (ks : List HlType) → AreOf (lent leaves) (map form ks) → length leaves ≡ length ks
lent_long leaves ks h = sym (length-map leaves (λ (b : Bor CoreValue). value_of b.now)) ∙ are_long (lent leaves) ks h

are_at : (cs : List Value) (ks : List HlType) (i : ℕ) (c : Value) (k : HlType) → AreOf cs (map form ks) → i < length ks → c ≡ get_or cs i c → k ≡ get_or ks i k → IsOf c (form k)
are_at [] [] i c k h less is is' = absurd (omega arith)
are_at [] (l ∷ ks) i c k h less is is' = absurd h
are_at (d ∷ cs) [] i c k h less is is' = absurd (omega arith)
are_at (d ∷ cs) (l ∷ ks) zero c k h less is is' = rw (is, is') h.0
are_at (d ∷ cs) (l ∷ ks) (suc i) c k h less is is' = are_at cs ks i c k h.1 (omega arith) is is'

lent_at : (leaves : List (Bor CoreValue)) (i : ℕ) (leaf : Bor CoreValue) → i < length leaves → leaf ≡ get_or leaves i leaf → value_of leaf.now ≡ get_or (lent leaves) i (value_of leaf.now)
lent_at leaves i leaf less is = sym (get_or-map (λ (b : Bor CoreValue). value_of b.now) leaves i leaf (value_of leaf.now) less ∙ ap (λ (b : Bor CoreValue). value_of b.now) (sym is))

pub leaf_of : (leaves : List (Bor CoreValue)) (ks : List HlType) (i : ℕ) (leaf : Bor CoreValue) (k : HlType) → AreOf (lent leaves) (map form ks) → i < length ks → leaf ≡ get_or leaves i leaf → k ≡ get_or ks i k → IsOf (value_of leaf.now) (form k)
leaf_of leaves ks i leaf k h less is is' =
    let long = lent_long leaves ks h in
    are_at (lent leaves) ks i (value_of leaf.now) k h less (lent_at leaves i leaf (omega arith) is) is'

pub item_of : (leaves : List (Bor CoreValue)) (k : HlType) (i : ℕ) (leaf : Bor CoreValue) → All (λ v. IsOf v (form k)) (lent leaves) → i < length leaves → leaf ≡ get_or leaves i leaf → IsOf (value_of leaf.now) (form k)
item_of leaves k i leaf h less is =
    let long = length-map leaves (λ (b : Bor CoreValue). value_of b.now) in
    rw (lent_at leaves i leaf less is) (h i (value_of leaf.now) (omega arith))

pub sound_at : (ks : List HlType) (i : ℕ) (k : HlType) → IsTrue (list_all (λ kind. kind) (map is_sound ks)) → i < length ks → k ≡ get_or ks i k → IsTrue (is_sound k)
sound_at [] i k h less is = absurd (omega arith)
sound_at (l ∷ ks) zero k h less is = rw is (both_true _ _ h).0
sound_at (l ∷ ks) (suc i) k h less is = sound_at ks i k (both_true _ _ h).1 (omega arith) is

-- Tuples, arrays and lists of a form.

all_good : (ks : List HlType) → IsTrue (list_all (λ kind. kind) (map is_sound ks)) → AllGood (map codec ks)
all_good [] h = no_good
all_good (k ∷ ks) h = let parts = both_true _ _ h in more_good (codec k) (map codec ks) (sound_good k parts.0) (all_good ks parts.1)

encodes_of : (ks : List HlType) (vs : List HlValue) (cs : List Value) → AllGood (map codec ks) → Encodes (map codec ks) vs cs → AreOf cs (map form ks)
encodes_of [] _ _ gs no_parts = tt
encodes_of (k ∷ ks) _ _ (more_good _ _ g gs) (more_parts _ _ v vs c cs h hs) = ((g.there v c h).0, encodes_of ks vs cs gs hs)

each_of : (k : HlType) (vs : List HlValue) (cs : List Value) → Good (codec k) → Each (codec k) vs cs → All (λ v. IsOf v (form k)) cs
each_of k _ _ g no_items i d less = absurd (omega arith)
each_of k _ _ g (more_items v vs c cs h hs) zero d less = (g.there v c h).0
each_of k _ _ g (more_items v vs c cs h hs) (suc i) d less = each_of k vs cs g hs i d (omega arith)

-- the parts of a core value of a form, of which there is one list
record PartsOf (v : Value) (ks : List HlType) : Type 0 where
  parts : List Value
  long : length parts ≡ length ks
  is : tuple_value parts ≡ v
  are : AreOf parts (map form ks)

record ItemsOf (v : Value) (k : HlType) (IsMade : List Value → Type 0) : Type 0 where
  items : List Value
  is : IsMade items
  are : All (λ v. IsOf v (form k)) items

module _ (v : Value) (k : HlType) (ks : List HlType) (is : k ≡ kind.Tuple ks) (sound : IsSound k) (of : IsOf v (form k)) where
  pub tuple_sound : IsTrue (list_all (λ kind. kind) (map is_sound ks))
  tuple_sound = rw (is, sound-Tuple ks) at sound

  tuple_parts : PartsOf v ks
  tuple_parts =
      let good = all_good ks tuple_sound in
      let of' : IsOf v (tuple_kind (kinds (map codec ks))) = rw (kinds_map ks) (rw (is, form-Tuple ks) at of) in
      let few : length (map codec ks) ≤ length ks = omega (arith, length-map ks codec) in
      let b = tuple_back (length ks) (map codec ks) v few good of' in
      record { parts = b.parts; long = (encodes_length (map codec ks) b.values b.parts b.encoded).1 ∙ length-map ks codec; is = b.is; are = encodes_of ks b.values b.parts good b.encoded }

  pub tuple_there : (n : ℕ) → n ≡ length ks → IsTuple n v
  tuple_there n long = let t = tuple_parts in record { parts = t.parts; long = t.long ∙ sym long; is = t.is }

  tuple_lent : (old new leaves : List (Bor CoreValue)) (n : ℕ) → n ≡ length ks → old ≡ [] → PushesParts old new n v → leaves ≡ new → lent leaves ≡ tuple_parts.parts
  tuple_lent old new leaves n long none p same = let t = tuple_parts in ap lent same ∙ p.pushes t.parts (t.long ∙ sym long) t.is ∙ rw none refl

  pub tuple_are : (old new leaves : List (Bor CoreValue)) (n : ℕ) → n ≡ length ks → old ≡ [] → PushesParts old new n v → leaves ≡ new → AreOf (lent leaves) (map form ks)
  tuple_are old new leaves n long none p same = rw (tuple_lent old new leaves n long none p same) tuple_parts.are

  pub tuple_decoded : (old new leaves : List (Bor CoreValue)) (n : ℕ) (values : List HlValue) → n ≡ length ks → old ≡ [] → PushesParts old new n v → leaves ≡ new → at_each (map encoded values) ks ≡ Some (lent leaves) →
      encoded (value.Tuple values) k ≡ Some v
  tuple_decoded old new leaves n values long none p same h =
      rw is (encoded-Tuple values ks ∙ rw (h, tuple_lent old new leaves n long none p same) (ap Some tuple_parts.is))

module _ (v : Value) (k item : HlType) (count : ℕ) (is : k ≡ kind.Array item count) (sound : IsSound k) (of : IsOf v (form k)) where
  pub item_sound : IsSound item
  item_sound = (both_true _ _ (rw (is, sound-Array item count) at sound)).0

  array_parts : ItemsOf v item (λ items. (length items ≡ count) × (tuple_value items ≡ v))
  array_parts =
      let good = sound_good item item_sound in
      let b = copies_back count (codec item) v good (rw (is, form-Array item count) at of) in
      record { items = b.parts; is = (b.count, b.is); are = each_of item b.values b.parts good b.encoded }

  pub array_there : IsTuple count v
  array_there = let t = array_parts in record { parts = t.items; long = t.is.0; is = t.is.1 }

  array_lent : (old new leaves : List (Bor CoreValue)) → old ≡ [] → PushesParts old new count v → leaves ≡ new → lent leaves ≡ array_parts.items
  array_lent old new leaves none p same = let t = array_parts in ap lent same ∙ p.pushes t.items t.is.0 t.is.1 ∙ rw none refl

  pub array_are : (old new leaves : List (Bor CoreValue)) → old ≡ [] → PushesParts old new count v → leaves ≡ new → All (λ v. IsOf v (form item)) (lent leaves)
  array_are old new leaves none p same = rw (array_lent old new leaves none p same) array_parts.are

  pub array_decoded : (old new leaves : List (Bor CoreValue)) (values : List HlValue) → old ≡ [] → PushesParts old new count v → leaves ≡ new → at_all (map encoded values) item ≡ Some (lent leaves) → encoded (value.Array values) k ≡ Some v
  array_decoded old new leaves values none p same h =
      let lents = array_lent old new leaves none p same in
      let long : length (map encoded values) ≡ count = length-map values encoded ∙ at_all_long values item (lent leaves) h ∙ ap length lents ∙ array_parts.is.0 in
      rw is (encoded-Array values item count ∙ rw (eq-eqb (length (map encoded values)) count long, h, lents) (ap Some array_parts.is.1))

module _ (v : Value) (k item : HlType) (bound level : ℕ) (is : k ≡ kind.List item bound) (l : level ≡ bound_level bound) (sound : IsSound k) (of : IsOf v (form k)) where
  pub list_item_sound : IsSound item
  list_item_sound = (both_true _ _ (rw (is, sound-List item bound) at sound)).0

  list_parts : ItemsOf v item (λ items. list_value level items ≡ Some v)
  list_parts =
      let good = sound_good item list_item_sound in
      let of' : IsOf v (list_kind level (form item)) = rw l (rw (is, form-List item bound) at of) in
      let b = list_back level (codec item) v good of' in
      record { items = b.parts; is = b.encoded; are = each_of item b.values b.parts good b.each }

  pub list_there : IsList level v
  list_there = let t = list_parts in record { items = t.items; is = t.is }

  list_lent : (old new leaves : List (Bor CoreValue)) → old ≡ [] → PushesItems old new level v → leaves ≡ new → lent leaves ≡ list_parts.items
  list_lent old new leaves none p same = let t = list_parts in ap lent same ∙ p.pushes t.items t.is ∙ rw none refl

  pub list_are : (old new leaves : List (Bor CoreValue)) → old ≡ [] → PushesItems old new level v → leaves ≡ new → All (λ v. IsOf v (form item)) (lent leaves)
  list_are old new leaves none p same = rw (list_lent old new leaves none p same) list_parts.are

  pub list_decoded : (old new leaves : List (Bor CoreValue)) (values : List HlValue) → old ≡ [] → PushesItems old new level v → leaves ≡ new → at_all (map encoded values) item ≡ Some (lent leaves) → encoded (value.List values) k ≡ Some v
  list_decoded old new leaves values none p same h =
      rw is (encoded-List values item bound ∙ rw (h, list_lent old new leaves none p same, ← l) list_parts.is)

pub list_bound : (k item : HlType) (bound : ℕ) → k ≡ kind.List item bound → IsSound k → IsTrue (is_bound bound)
list_bound k item bound is sound = (both_true _ _ (rw (is, sound-List item bound) at sound)).1

pub parts_decoded : (leaves : List (Bor CoreValue)) (items ks : List HlType) (i : ℕ) (values : List HlValue) → items ≡ ks → length items ≤ i → AreOf (lent leaves) (map form ks) → HasDecodedParts leaves items i values →
    at_each (map encoded values) ks ≡ Some (lent leaves)
parts_decoded leaves items ks i values same past are h =
    let long = are_long (lent leaves) ks are in
    let n = ap length same in
    rw (← same) (rw (take_all i items past, take_all i (lent leaves) (omega arith)) at h.are)

pub nothing_decoded : (v u : Value) (k item : HlType) → k ≡ kind.Option item → v ≡ Inl u → IsOf v (form k) → encoded value.Nothing k ≡ Some v
nothing_decoded v u k item is left of =
    let of' : IsOf (Inl u) (Sum One (form item)) = rw (is, left, form-Option item) at of in
    rw (is, left, one_parts u of') (encode_rolled HlValue-F.Nothing (HlType-F.Option item) value.Nothing (kind.Option item) value.rolls-Nothing (kind.rolls-Option item))
  where
    form-Option : (item : HlType) → form (kind.Option item) ≡ Sum One (form item)
    form-Option item = ap form (sym (kind.rolls-Option item)) ∙ fold-roll-HlType Kind form_step (HlType-F.Option item)
