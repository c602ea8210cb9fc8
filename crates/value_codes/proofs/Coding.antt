-- The encoding of values is one to one onto the core values of the form.
use Rattle.std.proofs.Common.{◌≡◌, ℕ, ◌^◌, ◌<◌, ◌≤◌, Bool, true, false, ◌&&◌, nat_eq, nat_lt, List, [], ◌∷◌, length, map, Option, Some, None, option_map, refl, sym, ap, ◌∙◌, subst, arith, IsTrue, eqb-true, eq-eqb, lt-ltb, ltb-true, if◌then◌else◌}
use Rattle.std.proofs.lemmas.List.{length-map}
use Rattle.std.specs.Prelude.{option_and_then}
use Rattle.std.specs.List.{list_all}
use Rattle.hl_data.specs.declared.value.HlValue.{HlValue, map-HlValue, roll-HlValue}
use Rattle.hl_data.specs.declared.value.HlValue.TheOpen.{HlValue-F}
use Rattle.hl_data.specs.declared.value.HlValue.TheViews.{out-HlValue, roll-out-HlValue, out-roll-HlValue}
use Rattle.hl_data.specs.declared.value.HlValue.TheFolds.{fold_out-HlValue}
use Rattle.hl_data.specs.declared.value.HlValue.TheVariants as value
use Rattle.hl_syntax.specs.declared.kinds.HlType.{HlType, map-HlType}
use Rattle.hl_syntax.specs.declared.kinds.HlType.TheOpen.{HlType-F}
use Rattle.hl_syntax.specs.declared.kinds.HlType.TheViews.{roll-HlType, out-roll-HlType}
use Rattle.hl_syntax.specs.declared.kinds.HlType.TheFolds.{fold-roll-HlType, ind-HlType}
use Rattle.jets.specs.Unsigned.{Unsigned}
use Rattle.simplicity.proofs.Values.{word_of as of_word}
use Rattle.simplicity.specs.Tuples.{tuple_value, tuple_kind}
use Rattle.simplicity.specs.Types.{Kind, Value, UnitValue, Inl, Inr, Pair, IsOf, word_value, word_count}
use Rattle.simplicity.specs.Widths.{level_of}
use Rattle.simplicityhl.specs.Kinds.{form, form_step, sound_step, is_width, bound_level, IsSound}
use Rattle.hl_meaning.specs.Values.{Encoding, Decoding, encoded, encode_step, encode_at, decoded, decode_step, at_each, at_all, list_value, is_number_of, beside}
use Rattle.simplicityhl.specs.Kinds.{is_sound}
use Rattle.value_codes.proofs.Codecs.{Codec, Good, kinds, decoders, AllGood, no_good, more_good, Encodes, no_parts, more_parts, tuple_there, tuple_back, one_parts}
use Rattle.value_codes.proofs.Lists.{Each, no_items, more_items, copies_there, copies_back, list_there, list_back, mapped, each_length}
use Rattle.value_codes.proofs.Words.{number_of-word, word_back, width_count}

-- how values of a type are encoded and decoded
abbrev pub codec : HlType → Codec
codec k = record { encode = λ v. encoded v k; decode = decoded k; kind = form k }

-- the same of one layer of a type
abbrev layer_codec : HlType-F HlType → Codec
layer_codec x = record {
  encode = λ v. encode_at (map-HlValue HlValue Encoding encoded (out-HlValue v)) x;
  decode = decode_step (map-HlType HlType Decoding decoded x);
  kind = form_step (map-HlType HlType Kind form x);
}

encode_layer : (v : HlValue) (x : HlType-F HlType) → encoded v (roll-HlType x) ≡ encode_at (map-HlValue HlValue Encoding encoded (out-HlValue v)) x
encode_layer v x = ap (λ f. f (roll-HlType x)) (fold_out-HlValue Encoding encode_step v) ∙ ap (encode_at (map-HlValue HlValue Encoding encoded (out-HlValue v))) (out-roll-HlType x)

-- a layer of a value at a layer of a type
pub encode_rolled : (w : HlValue-F HlValue) (x : HlType-F HlType) (v : HlValue) (k : HlType) → roll-HlValue w ≡ v → roll-HlType x ≡ k → encoded v k ≡ encode_at (map-HlValue HlValue Encoding encoded w) x
encode_rolled w x v k v_is k_is =
    ap (λ v. encoded v k) (sym v_is) ∙ ap (encoded (roll-HlValue w)) (sym k_is) ∙ encode_layer (roll-HlValue w) x ∙ ap (λ w. encode_at (map-HlValue HlValue Encoding encoded w) x) (out-roll-HlValue w)

good_layer : (x : HlType-F HlType) → Good (layer_codec x) → Good (codec (roll-HlType x))
good_layer x g =
    let read = fold-roll-HlType Decoding decode_step x in
    let kind = fold-roll-HlType Kind form_step x in
    record {
      there = λ v c e. let both = g.there v c (sym (encode_layer v x) ∙ e) in (rw kind both.0, ap (λ f. f c) read ∙ both.1);
      back = λ c h.
          let f = g.back c (rw kind at h) in
          record { value = f.value; decoded = ap (λ d. d c) read ∙ f.decoded; encoded = encode_layer f.value x ∙ f.encoded };
    }

-- One layer of a type, by one layer of a value.

abbrev pub layer_encoded : HlValue-F HlValue → HlType-F HlType → Option Value
layer_encoded w x = encode_at (map-HlValue HlValue Encoding encoded w) x

abbrev layer_decoded : HlType-F HlType → Value → Option HlValue
layer_decoded x c = decode_step (map-HlType HlType Decoding decoded x) c

abbrev layer_form : HlType-F HlType → Kind
layer_form x = form_step (map-HlType HlType Kind form x)

record LayerThere (x : HlType-F HlType) (w : HlValue-F HlValue) (c : Value) : Type 0 where
  is_of : IsOf c (layer_form x)
  is_decoded : layer_decoded x c ≡ Some (roll-HlValue w)

record LayerBack (x : HlType-F HlType) (c : Value) : Type 0 where
  layer : HlValue-F HlValue
  is_decoded : layer_decoded x c ≡ Some (roll-HlValue layer)
  is_encoded : layer_encoded layer x ≡ Some c

record LayerGood (x : HlType-F HlType) : Type 0 where
  there : (w : HlValue-F HlValue) (c : Value) → layer_encoded w x ≡ Some c → LayerThere x w c
  back : (c : Value) → IsOf c (layer_form x) → LayerBack x c

layers : (x : HlType-F HlType) → LayerGood x → Good (layer_codec x)
layers x g = record {
  there = λ v c e. let t = g.there (out-HlValue v) c e in (t.is_of, t.is_decoded ∙ ap Some (roll-out-HlValue v));
  back = λ c h. let b = g.back c h in record {
    value = roll-HlValue b.layer;
    decoded = b.is_decoded;
    encoded = ap (λ w. layer_encoded w x) (out-roll-HlValue b.layer) ∙ b.is_encoded;
  };
}

-- what two answers beside one another came from
pub record Besides {A B C : Type 0} (join : A → B → C) (a : Option A) (b : Option B) (c : C) : Type 0 where
  pub left : A
  pub right : B
  pub left_was : a ≡ Some left
  pub right_was : b ≡ Some right
  pub is : c ≡ join left right

pub besides : {A B C : Type 0} (join : A → B → C) (a : Option A) (b : Option B) (c : C) → beside join a b ≡ Some c → Besides join a b c
besides join (Some a) (Some b) c h = record { left = a; right = b; left_was = refl; right_was = refl; is = cc }
besides join (Some a) None c h = absurd (cc)
besides join None b c h = absurd (cc)

-- what an answer after another came from
record Joined {A B : Type 0} (f : A → Option B) (o : Option A) (b : B) : Type 0 where
  from : A
  was : o ≡ Some from
  is : f from ≡ Some b

joined : {A B : Type 0} (f : A → Option B) (o : Option A) (b : B) → option_and_then f o ≡ Some b → Joined f o b
joined f (Some a) b h = record { from = a; was = refl; is = h }
joined f None b h = absurd (cc)

-- parts at types

at_each_encodes : (vs : List HlValue) (ks : List HlType) (cs : List Value) → at_each (map encoded vs) ks ≡ Some cs → Encodes (map codec ks) vs cs
at_each_encodes [] [] cs h = let e : cs ≡ [] = cc in rw e no_parts
at_each_encodes [] (k ∷ ks) cs h = absurd (cc)
at_each_encodes (v ∷ vs) [] cs h = absurd (cc)
at_each_encodes (v ∷ vs) (k ∷ ks) cs h =
    let b = besides (λ c cs. c ∷ cs) (encoded v k) (at_each (map encoded vs) ks) cs h in
    rw b.is (more_parts (codec k) (map codec ks) v vs b.left b.right b.left_was (at_each_encodes vs ks b.right b.right_was))

encodes_at_each : (vs : List HlValue) (ks : List HlType) (cs : List Value) → Encodes (map codec ks) vs cs → at_each (map encoded vs) ks ≡ Some cs
encodes_at_each _ [] _ no_parts = refl
encodes_at_each _ (k ∷ ks) _ (more_parts _ _ v vs c cs h hs) = rw (h, encodes_at_each vs ks cs hs) refl

at_all_each : (vs : List HlValue) (k : HlType) (cs : List Value) → at_all (map encoded vs) k ≡ Some cs → Each (codec k) vs cs
at_all_each [] k cs h = let e : cs ≡ [] = cc in rw e no_items
at_all_each (v ∷ vs) k cs h =
    let b = besides (λ c cs. c ∷ cs) (encoded v k) (at_all (map encoded vs) k) cs h in
    rw b.is (more_items v vs b.left b.right b.left_was (at_all_each vs k b.right b.right_was))

each_at_all : (k : HlType) (vs : List HlValue) (cs : List Value) → Each (codec k) vs cs → at_all (map encoded vs) k ≡ Some cs
each_at_all k _ _ no_items = refl
each_at_all k _ _ (more_items v vs c cs h hs) = rw (h, each_at_all k vs cs hs) refl

-- truth values and numbers

bool_there : (w : HlValue-F HlValue) (c : Value) → layer_encoded w HlType-F.Bool ≡ Some c → LayerThere HlType-F.Bool w c
bool_there (HlValue-F.Bool true) c h = let e : c ≡ Inr UnitValue = cc in record { is_of = rw e tt; is_decoded = rw e (ap Some (sym (value.rolls-Bool true))) }
bool_there (HlValue-F.Bool false) c h = let e : c ≡ Inl UnitValue = cc in record { is_of = rw e tt; is_decoded = rw e (ap Some (sym (value.rolls-Bool false))) }
bool_there _ c h = absurd (cc)

bool_back : (c : Value) → IsOf c (layer_form HlType-F.Bool) → LayerBack HlType-F.Bool c
bool_back (Inl u) h = let e = one_parts u h in record { layer = HlValue-F.Bool false; is_decoded = rw e (ap Some (sym (value.rolls-Bool false))); is_encoded = rw e refl }
bool_back (Inr u) h = let e = one_parts u h in record { layer = HlValue-F.Bool true; is_decoded = rw e (ap Some (sym (value.rolls-Bool true))); is_encoded = rw e refl }
bool_back UnitValue h = absurd h
bool_back (Pair a b) h = absurd h

both_true : (a b : Bool) → IsTrue (a && b) → IsTrue a × IsTrue b
both_true true b h = (refl, h)
both_true false b h = cc

-- what a test that holds gives
tested : {A : Type 0} (b : Bool) (x y : A) → (if b then Some x else None) ≡ Some y → IsTrue b × (y ≡ x)
tested true x y h = (refl, cc)
tested false x y h = absurd (cc)

module _ (width : ℕ) (sound : IsTrue (is_width width)) where
  same_count : 2 ^ width ≡ word_count (level_of width)
  same_count = ap (λ n. 2 ^ n) (width_count width sound)

  number_found : (u : Unsigned) (c : Value) → IsTrue (is_number_of width u) → c ≡ word_value (level_of width) u.number → LayerThere (HlType-F.UInt width) (HlValue-F.Number u) c
  number_found u c h is =
      let both = both_true (nat_eq u.width width) (nat_lt u.number (2 ^ width)) h in
      let same : u.width ≡ width = eqb-true u.width width both.0 in
      let fits : u.number < word_count (level_of width) = rw (← same_count) (ltb-true u.number (2 ^ width) both.1) in
      let word : record { width = width; number = u.number } ≡ u = ap (λ n. let w : Unsigned = record { width = n; number = u.number } in w) (sym same) in
      record {
        is_of = rw is (of_word (level_of width) u.number);
        is_decoded = rw (is, number_of-word (level_of width) u.number fits) (ap (λ w. Some (value.Number w)) word ∙ ap Some (sym (value.rolls-Number u)));
      }

  number_there : (w : HlValue-F HlValue) (c : Value) → layer_encoded w (HlType-F.UInt width) ≡ Some c → LayerThere (HlType-F.UInt width) w c
  number_there (HlValue-F.Number u) c h = let t = tested (is_number_of width u) (word_value (level_of width) u.number) c h in number_found u c t.0 t.1
  number_there _ c h = absurd (cc)

  number_back : (c : Value) → IsOf c (layer_form (HlType-F.UInt width)) → LayerBack (HlType-F.UInt width) c
  number_back c h =
      let b = word_back (level_of width) c h in
      let u : Unsigned = record { width = width; number = b.number } in
      let less : b.number < 2 ^ width = rw same_count b.fits in
      let one = eq-eqb width width refl in let two = lt-ltb b.number (2 ^ width) less in
      record {
        layer = HlValue-F.Number u;
        is_decoded = rw b.read (ap Some (sym (value.rolls-Number u)));
        is_encoded = rw (one, two) (ap Some b.is);
      }

-- tuples

pub kinds_map : (ks : List HlType) → kinds (map codec ks) ≡ map form ks
kinds_map [] = refl
kinds_map (k ∷ ks) = ap (λ js. form k ∷ js) (kinds_map ks)

decoders_map : (ks : List HlType) → decoders (map codec ks) ≡ map decoded ks
decoders_map [] = refl
decoders_map (k ∷ ks) = ap (λ ds. decoded k ∷ ds) (decoders_map ks)

module _ (ks : List HlType) (good : AllGood (map codec ks)) where
  few : length (map codec ks) ≤ length (map decoded ks)
  few = omega (arith, length-map ks codec, length-map ks decoded)

  tuple_layer_there : (w : HlValue-F HlValue) (c : Value) → layer_encoded w (HlType-F.Tuple ks) ≡ Some c → LayerThere (HlType-F.Tuple ks) w c
  tuple_layer_there (HlValue-F.Tuple vs) c h =
      let m = mapped tuple_value (at_each (map encoded vs) ks) c h in
      let t = tuple_there (length (map decoded ks)) (map codec ks) vs m.from few good (at_each_encodes vs ks m.from m.was) in
      let of = rw (kinds_map ks) at t.is_of in let read = rw (decoders_map ks) at t.decoded in
      record { is_of = rw m.is of; is_decoded = rw (m.is, read) (ap Some (sym (value.rolls-Tuple vs))) }
  tuple_layer_there _ c h = absurd (cc)

  tuple_layer_back : (c : Value) → IsOf c (layer_form (HlType-F.Tuple ks)) → LayerBack (HlType-F.Tuple ks) c
  tuple_layer_back c h =
      let h' : IsOf c (tuple_kind (kinds (map codec ks))) = rw (kinds_map ks) h in
      let b = tuple_back (length (map decoded ks)) (map codec ks) c few good h' in
      let read = rw (decoders_map ks) at b.decoded in
      record {
        layer = HlValue-F.Tuple b.values;
        is_decoded = rw read (ap Some (sym (value.rolls-Tuple b.values)));
        is_encoded = rw (encodes_at_each b.values ks b.parts b.encoded) (ap Some b.is);
      }

-- arrays and lists

module _ (k : HlType) (good : Good (codec k)) where
  array_there : (count : ℕ) (w : HlValue-F HlValue) (c : Value) → layer_encoded w (HlType-F.Array k count) ≡ Some c → LayerThere (HlType-F.Array k count) w c
  array_there count (HlValue-F.Array vs) c h =
      elim (nat_eq (length (map encoded vs)) count) as (λ b. nat_eq (length (map encoded vs)) count ≡ b → LayerThere (HlType-F.Array k count) (HlValue-F.Array vs) c) [
        | true ↦ λ is.
            let h' : option_map tuple_value (at_all (map encoded vs) k) ≡ Some c = rw is at h in
            let m = mapped tuple_value (at_all (map encoded vs) k) c h' in
            let each = at_all_each vs k m.from m.was in
            let long : count ≡ length m.from = omega (arith, eqb-true _ _ is, length-map vs encoded, each_length (codec k) vs m.from each) in
            let t = copies_there count (codec k) vs m.from good long each in
            record { is_of = rw m.is t.is_of; is_decoded = rw (m.is, t.decoded) (ap Some (sym (value.rolls-Array vs))) }
        | false ↦ λ is. let h' : None ≡ Some c = rw is at h in absurd (cc)
      ] refl
  array_there count _ c h = absurd (cc)

  array_back : (count : ℕ) (c : Value) → IsOf c (layer_form (HlType-F.Array k count)) → LayerBack (HlType-F.Array k count) c
  array_back count c h =
      let b = copies_back count (codec k) c good h in
      let long : length (map encoded b.values) ≡ count = length-map b.values encoded ∙ each_length (codec k) b.values b.parts b.encoded ∙ b.count in
      let is = eq-eqb (length (map encoded b.values)) count long in
      record {
        layer = HlValue-F.Array b.values;
        is_decoded = rw b.decoded (ap Some (sym (value.rolls-Array b.values)));
        is_encoded = rw (is, each_at_all k b.values b.parts b.encoded) (ap Some b.is);
      }

  list_layer_there : (bound : ℕ) (w : HlValue-F HlValue) (c : Value) → layer_encoded w (HlType-F.List k bound) ≡ Some c → LayerThere (HlType-F.List k bound) w c
  list_layer_there bound (HlValue-F.List vs) c h =
      let j = joined (list_value (bound_level bound)) (at_all (map encoded vs) k) c h in
      let t = list_there (bound_level bound) (codec k) vs j.from c good (at_all_each vs k j.from j.was) j.is in
      record { is_of = t.is_of; is_decoded = rw t.decoded (ap Some (sym (value.rolls-List vs))) }
  list_layer_there bound _ c h = absurd (cc)

  list_layer_back : (bound : ℕ) (c : Value) → IsOf c (layer_form (HlType-F.List k bound)) → LayerBack (HlType-F.List k bound) c
  list_layer_back bound c h =
      let b = list_back (bound_level bound) (codec k) c good h in
      record {
        layer = HlValue-F.List b.values;
        is_decoded = rw b.decoded (ap Some (sym (value.rolls-List b.values)));
        is_encoded = rw (each_at_all k b.values b.parts b.each) b.encoded;
      }

  option_there : (w : HlValue-F HlValue) (c : Value) → layer_encoded w (HlType-F.Option k) ≡ Some c → LayerThere (HlType-F.Option k) w c
  option_there HlValue-F.Nothing c h = let e : c ≡ Inl UnitValue = cc in record { is_of = rw e tt; is_decoded = rw e (ap Some (sym value.rolls-Nothing)) }
  option_there (HlValue-F.Some v) c h =
      let m = mapped Inr (encoded v k) c h in let one = good.there v m.from m.was in
      record { is_of = rw m.is one.0; is_decoded = rw (m.is, one.1) (ap Some (sym (value.rolls-Some v))) }
  option_there _ c h = absurd (cc)

  option_back : (c : Value) → IsOf c (layer_form (HlType-F.Option k)) → LayerBack (HlType-F.Option k) c
  option_back (Inl u) h = let e = one_parts u h in record { layer = HlValue-F.Nothing; is_decoded = rw e (ap Some (sym value.rolls-Nothing)); is_encoded = rw e refl }
  option_back (Inr d) h = let f = good.back d h in
      record { layer = HlValue-F.Some f.value; is_decoded = rw f.decoded (ap Some (sym (value.rolls-Some f.value))); is_encoded = rw f.encoded refl }
  option_back UnitValue h = absurd h
  option_back (Pair a b) h = absurd h

module _ (k l : HlType) (first : Good (codec k)) (second : Good (codec l)) where
  either_there : (w : HlValue-F HlValue) (c : Value) → layer_encoded w (HlType-F.Either k l) ≡ Some c → LayerThere (HlType-F.Either k l) w c
  either_there (HlValue-F.Left v) c h =
      let m = mapped Inl (encoded v k) c h in let one = first.there v m.from m.was in
      record { is_of = rw m.is one.0; is_decoded = rw (m.is, one.1) (ap Some (sym (value.rolls-Left v))) }
  either_there (HlValue-F.Right v) c h =
      let m = mapped Inr (encoded v l) c h in let one = second.there v m.from m.was in
      record { is_of = rw m.is one.0; is_decoded = rw (m.is, one.1) (ap Some (sym (value.rolls-Right v))) }
  either_there _ c h = absurd (cc)

  either_back : (c : Value) → IsOf c (layer_form (HlType-F.Either k l)) → LayerBack (HlType-F.Either k l) c
  either_back (Inl d) h = let f = first.back d h in
      record { layer = HlValue-F.Left f.value; is_decoded = rw f.decoded (ap Some (sym (value.rolls-Left f.value))); is_encoded = rw f.encoded refl }
  either_back (Inr d) h = let f = second.back d h in
      record { layer = HlValue-F.Right f.value; is_decoded = rw f.decoded (ap Some (sym (value.rolls-Right f.value))); is_encoded = rw f.encoded refl }
  either_back UnitValue h = absurd h
  either_back (Pair a b) h = absurd h

-- All types.

abbrev Claim : HlType → Type 0
Claim k = IsTrue (is_sound k) → Good (codec k)

abbrev Proved : Type 0
Proved = (k : HlType) × Claim k

abbrev first_of : Proved → HlType
first_of e = e.0

all_good : (parts : List Proved) → IsTrue (list_all (λ part. part) (map is_sound (map first_of parts))) → AllGood (map codec (map first_of parts))
all_good [] s = no_good
all_good (e ∷ parts) s =
    let both = both_true (is_sound e.0) (list_all (λ part. part) (map is_sound (map first_of parts))) s in
    more_good (codec e.0) (map codec (map first_of parts)) (e.1 both.0) (all_good parts both.1)

layer_good : (y : HlType-F Proved) → IsTrue (sound_step (map-HlType HlType Bool is_sound (map-HlType Proved HlType first_of y))) → LayerGood (map-HlType Proved HlType first_of y)
layer_good HlType-F.Bool s = record { there = bool_there; back = bool_back }
layer_good (HlType-F.UInt width) s = record { there = number_there width s; back = number_back width s }
layer_good (HlType-F.Tuple parts) s =
    let all = all_good parts s in record { there = tuple_layer_there (map first_of parts) all; back = tuple_layer_back (map first_of parts) all }
layer_good (HlType-F.Array item count) s = let g = item.1 (both_true _ _ s).0 in record { there = array_there item.0 g count; back = array_back item.0 g count }
layer_good (HlType-F.List item bound) s = let g = item.1 (both_true _ _ s).0 in record { there = list_layer_there item.0 g bound; back = list_layer_back item.0 g bound }
layer_good (HlType-F.Option item) s = let g = item.1 s in record { there = option_there item.0 g; back = option_back item.0 g }
layer_good (HlType-F.Either left right) s =
    let both = both_true _ _ s in
    let g = left.1 both.0 in let h = right.1 both.1 in record { there = either_there left.0 right.0 g h; back = either_back left.0 right.0 g h }

proved_layer : (y : HlType-F Proved) → Claim (roll-HlType (map-HlType Proved HlType first_of y))
proved_layer y s =
    let x : HlType-F HlType = map-HlType Proved HlType first_of y in
    let s' = rw (fold-roll-HlType Bool sound_step (map-HlType Proved HlType first_of y)) at s in
    good_layer (map-HlType Proved HlType first_of y) (layers (map-HlType Proved HlType first_of y) (layer_good y s'))

pub sound_good : (k : HlType) → IsSound k → Good (codec k)
sound_good = ind-HlType Claim (λ x y is. subst (λ z. Claim (roll-HlType z)) is (proved_layer y))
