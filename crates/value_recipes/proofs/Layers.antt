-- The terms of values by their parts.
use Rattle.std.proofs.Common.{◌≡◌, ℕ, Bool, List, map, Option, Some, None, option_map, refl, sym, ap, ◌∙◌, subst, IsTrue}
use Rattle.std.specs.Prelude.{IsSome, option_and_then}
use Rattle.hl_data.specs.declared.value.HlValue.{HlValue, map-HlValue}
use Rattle.hl_data.specs.declared.value.HlValue.TheFolds.{fold-roll-HlValue}
use Rattle.hl_data.specs.declared.value.HlValue.TheOpen.{HlValue-F}
use Rattle.hl_data.specs.declared.value.HlValue.TheVariants as value
use Rattle.hl_data.specs.declared.value.HlValue.TheViews.{roll-HlValue}
use Rattle.hl_syntax.specs.declared.kinds.HlType.{HlType, map-HlType}
use Rattle.hl_syntax.specs.declared.kinds.HlType.TheFolds.{fold-roll-HlType}
use Rattle.hl_syntax.specs.declared.kinds.HlType.TheOpen.{HlType-F}
use Rattle.hl_syntax.specs.declared.kinds.HlType.TheVariants as kind
use Rattle.hl_syntax.specs.declared.kinds.HlType.TheViews.{out-HlType, roll-HlType, out-roll-HlType}
use Rattle.hl_meaning.specs.Entries.{IsValueOf}
use Rattle.hl_meaning.specs.Values.{Encoding, at_all, encode_at, encode_step, encoded, list_value}
use Rattle.hl_terms.specs.Translated.{ValueTerm, all_values, each_value, list_term, value_at, value_term}
use Rattle.hl_term_laws.proofs.Params.{value_gives}
use Rattle.value_recipes.proofs.Encoded.{both_true}
use Rattle.simplicity.specs.Arrows.{IsTypedTerm}
use Rattle.simplicity.specs.Makes.{to_left, to_right, tuple, unit}
use Rattle.simplicity.specs.Types.{Kind, One, Value, Inl, Inr}
use Rattle.simplicityhl.specs.Kinds.{bound_level, form, is_bound, is_sound, sound_step, IsSound}

-- what stands for a value is typed
pub value_typed : (v : HlValue) (k : HlType) (a : Kind) → IsValueOf v k → IsTypedTerm (value_term v k a)
value_typed v k a h = by (encoded v k) refl h
  where
    by : (o : Option Value) → encoded v k ≡ o → IsSome o → IsTypedTerm (value_term v k a)
    by (Some c) e h = (value_gives v k c e a).typed
    by None e h = absurd (cc)

rolled : (w : HlValue-F HlValue) (x : HlType-F HlType) (v : HlValue) (k : HlType) (a : Kind) → roll-HlValue w ≡ v → roll-HlType x ≡ k →
    value_term v k a ≡ value_at (map-HlValue HlValue ValueTerm value_term w) x a
rolled w x v k a v_is k_is =
    ap (λ u. value_term u k a) (sym v_is)
    ∙ ap (λ (f : ValueTerm). f k a) (fold-roll-HlValue ValueTerm (λ x kind. value_at x (out-HlType kind)) w)
    ∙ ap (λ y. value_at (map-HlValue HlValue ValueTerm value_term w) y a) (ap out-HlType (sym k_is) ∙ out-roll-HlType x)

pub term-Tuple : (v : HlValue) (k : HlType) (a : Kind) (vs : List HlValue) (ks : List HlType) → v ≡ value.Tuple vs → k ≡ kind.Tuple ks → value_term v k a ≡ tuple a (each_value (map value_term vs) ks a)
term-Tuple v k a vs ks v_is k_is = rolled (HlValue-F.Tuple vs) (HlType-F.Tuple ks) v k a (value.rolls-Tuple vs ∙ sym v_is) (kind.rolls-Tuple ks ∙ sym k_is)

pub term-Array : (v : HlValue) (k : HlType) (a : Kind) (vs : List HlValue) (item : HlType) (count : ℕ) → v ≡ value.Array vs → k ≡ kind.Array item count → value_term v k a ≡ tuple a (all_values (map value_term vs) item a)
term-Array v k a vs item count v_is k_is = rolled (HlValue-F.Array vs) (HlType-F.Array item count) v k a (value.rolls-Array vs ∙ sym v_is) (kind.rolls-Array item count ∙ sym k_is)

pub term-List : (v : HlValue) (k : HlType) (a : Kind) (vs : List HlValue) (item : HlType) (bound : ℕ) → v ≡ value.List vs → k ≡ kind.List item bound →
    value_term v k a ≡ list_term a (form item) (bound_level bound) (all_values (map value_term vs) item a)
term-List v k a vs item bound v_is k_is = rolled (HlValue-F.List vs) (HlType-F.List item bound) v k a (value.rolls-List vs ∙ sym v_is) (kind.rolls-List item bound ∙ sym k_is)

pub term-Nothing : (v : HlValue) (k : HlType) (a : Kind) (item : HlType) → v ≡ value.Nothing → k ≡ kind.Option item → value_term v k a ≡ to_left (form item) (unit a)
term-Nothing v k a item v_is k_is = rolled HlValue-F.Nothing (HlType-F.Option item) v k a (value.rolls-Nothing ∙ sym v_is) (kind.rolls-Option item ∙ sym k_is)

pub term-Some : (v : HlValue) (k : HlType) (a : Kind) (u : HlValue) (item : HlType) → v ≡ value.Some u → k ≡ kind.Option item → value_term v k a ≡ to_right One (value_term u item a)
term-Some v k a u item v_is k_is = rolled (HlValue-F.Some u) (HlType-F.Option item) v k a (value.rolls-Some u ∙ sym v_is) (kind.rolls-Option item ∙ sym k_is)

pub term-Left : (v : HlValue) (k : HlType) (a : Kind) (u : HlValue) (left right : HlType) → v ≡ value.Left u → k ≡ kind.Either left right → value_term v k a ≡ to_left (form right) (value_term u left a)
term-Left v k a u left right v_is k_is = rolled (HlValue-F.Left u) (HlType-F.Either left right) v k a (value.rolls-Left u ∙ sym v_is) (kind.rolls-Either left right ∙ sym k_is)

pub term-Right : (v : HlValue) (k : HlType) (a : Kind) (u : HlValue) (left right : HlType) → v ≡ value.Right u → k ≡ kind.Either left right → value_term v k a ≡ to_right (form left) (value_term u right a)
term-Right v k a u left right v_is k_is = rolled (HlValue-F.Right u) (HlType-F.Either left right) v k a (value.rolls-Right u ∙ sym v_is) (kind.rolls-Either left right ∙ sym k_is)

-- the parts of a value are of the parts of its type, and those are sound
encoded_rolled : (w : HlValue-F HlValue) (x : HlType-F HlType) (v : HlValue) (k : HlType) → roll-HlValue w ≡ v → roll-HlType x ≡ k → encoded v k ≡ encode_at (map-HlValue HlValue Encoding encoded w) x
encoded_rolled w x v k v_is k_is =
    ap (λ u. encoded u k) (sym v_is) ∙ ap (λ (f : Encoding). f k) (fold-roll-HlValue Encoding encode_step w) ∙ ap (encode_at (map-HlValue HlValue Encoding encoded w)) (ap out-HlType (sym k_is) ∙ out-roll-HlType x)

mapped_there : {A B : Type 0} (f : A → B) (o : Option A) → IsSome (option_map f o) → IsSome o
mapped_there f (Some a) h = refl
mapped_there f None h = absurd (cc)

then_there : {A B : Type 0} (f : A → Option B) (o : Option A) → IsSome (option_and_then f o) → IsSome o
then_there f (Some a) h = refl
then_there f None h = absurd (cc)

pub list_there : (v : HlValue) (k : HlType) (vs : List HlValue) (item got : HlType) (bound : ℕ) → v ≡ value.List vs → k ≡ kind.List item bound → got ≡ item → IsValueOf v k → IsSome (at_all (map encoded vs) got)
list_there v k vs item got bound v_is k_is got_is h =
    let is = encoded_rolled (HlValue-F.List vs) (HlType-F.List item bound) v k (value.rolls-List vs ∙ sym v_is) (kind.rolls-List item bound ∙ sym k_is) in
    subst (λ kind. IsSome (at_all (map encoded vs) kind)) (sym got_is) (then_there (list_value (bound_level bound)) (at_all (map encoded vs) item) (subst IsSome is h))

pub left_there : (v : HlValue) (k : HlType) (u got : HlValue) (left right got_left : HlType) → v ≡ value.Left u → k ≡ kind.Either left right → got ≡ u → got_left ≡ left → IsValueOf v k → IsValueOf got got_left
left_there v k u got left right got_left v_is k_is got_is left_is h =
    let is = encoded_rolled (HlValue-F.Left u) (HlType-F.Either left right) v k (value.rolls-Left u ∙ sym v_is) (kind.rolls-Either left right ∙ sym k_is) in
    rw (got_is, left_is) (mapped_there Inl (encoded u left) (subst IsSome is h))

pub right_there : (v : HlValue) (k : HlType) (u got : HlValue) (left right got_right : HlType) → v ≡ value.Right u → k ≡ kind.Either left right → got ≡ u → got_right ≡ right → IsValueOf v k → IsValueOf got got_right
right_there v k u got left right got_right v_is k_is got_is right_is h =
    let is = encoded_rolled (HlValue-F.Right u) (HlType-F.Either left right) v k (value.rolls-Right u ∙ sym v_is) (kind.rolls-Either left right ∙ sym k_is) in
    rw (got_is, right_is) (mapped_there Inr (encoded u right) (subst IsSome is h))

sound_rolled : (x : HlType-F HlType) (k : HlType) → roll-HlType x ≡ k → is_sound k ≡ sound_step (map-HlType HlType Bool is_sound x)
sound_rolled x k is = ap is_sound (sym is) ∙ fold-roll-HlType Bool sound_step x

pub list_sound : (k item got : HlType) (bound : ℕ) → k ≡ kind.List item bound → got ≡ item → IsSound k → IsSound got
list_sound k item got bound is got_is h =
    rw got_is (both_true (is_sound item) (is_bound bound) (subst IsTrue (sound_rolled (HlType-F.List item bound) k (kind.rolls-List item bound ∙ sym is)) h)).0

pub either_sound : (k left right got_left got_right : HlType) → k ≡ kind.Either left right → got_left ≡ left → got_right ≡ right → IsSound k → IsSound got_left × IsSound got_right
either_sound k left right got_left got_right is left_is right_is h =
    let both = both_true (is_sound left) (is_sound right) (subst IsTrue (sound_rolled (HlType-F.Either left right) k (kind.rolls-Either left right ∙ sym is)) h) in
    (rw left_is both.0, rw right_is both.1)
