-- Encodings by the layers of values and types, and answers taken apart.
use Rattle.std.proofs.Common.{◌≡◌, ℕ, zero, suc, Bool, true, false, nat_eq, eqb-true, List, [], ◌∷◌, length, map, replicate, Option, Some, None, option_map, refl, sym, ap, ◌∙◌}
use Rattle.std.specs.Prelude.{if◌then◌else◌}
use Rattle.std.proofs.lemmas.List.{length-map}
use Rattle.hl_data.specs.declared.value.HlValue.{HlValue, map-HlValue}
use Rattle.hl_data.specs.declared.value.HlValue.TheFolds.{fold_out-HlValue}
use Rattle.hl_data.specs.declared.value.HlValue.TheOpen.{HlValue-F}
use Rattle.hl_data.specs.declared.value.HlValue.TheViews.{out-HlValue}
use Rattle.hl_syntax.specs.declared.kinds.HlType.{HlType, map-HlType}
use Rattle.hl_syntax.specs.declared.kinds.HlType.TheFolds.{fold_out-HlType}
use Rattle.hl_syntax.specs.declared.kinds.HlType.TheOpen.{HlType-F}
use Rattle.hl_syntax.specs.declared.kinds.HlType.TheVariants as kind
use Rattle.hl_syntax.specs.declared.kinds.HlType.TheViews.{out-HlType}
use Rattle.hl_meaning.specs.Values.{Encoding, encoded, encode_step, encode_at, at_each, at_all, beside}
use Rattle.simplicity.specs.Tuples.{tuple_kind, tuple_value}
use Rattle.simplicity.specs.Types.{Kind, Value}
use Rattle.simplicityhl.specs.Kinds.{form, form_step}

-- an answer that is there, and what it is made of
pub some_same : {A : Type 0} (x y : A) → Some x ≡ Some y → x ≡ y
some_same x y e = cc

pub record Mapped {A B : Type 0} (f : A → B) (o : Option A) (y : B) : Type 0 where
  pub from : A
  pub was : o ≡ Some from
  pub is : f from ≡ y

mapped : {A B : Type 0} (f : A → B) (o : Option A) (y : B) → option_map f o ≡ Some y → Mapped f o y
mapped f (Some x) y e = record { from = x; was = refl; is = some_same (f x) y e }
mapped f None y e = absurd (cc)

pub record Besides {A B C : Type 0} (join : A → B → C) (a : Option A) (b : Option B) (z : C) : Type 0 where
  pub first : A
  pub second : B
  pub first_is : a ≡ Some first
  pub second_is : b ≡ Some second
  pub is : join first second ≡ z

pub besides : {A B C : Type 0} (join : A → B → C) (a : Option A) (b : Option B) (z : C) → beside join a b ≡ Some z → Besides join a b z
besides join (Some x) (Some y) z e = record { first = x; second = y; first_is = refl; second_is = refl; is = some_same (join x y) z e }
besides join (Some x) None z e = absurd (cc)
besides join None b z e = absurd (cc)

-- the forms of tuples and arrays
form_at : (k : HlType) (x : HlType-F HlType) → out-HlType k ≡ x → form k ≡ form_step (map-HlType HlType Kind form x)
form_at k x is = fold_out-HlType Kind form_step k ∙ ap (λ y. form_step (map-HlType HlType Kind form y)) is

pub form_tuple : (ks : List HlType) → form (kind.Tuple ks) ≡ tuple_kind (map form ks)
form_tuple ks = form_at (kind.Tuple ks) (HlType-F.Tuple ks) (kind.outs-Tuple ks)

map_copies : (n : ℕ) (k : HlType) → map form (replicate n k) ≡ replicate n (form k)
map_copies zero k = refl
map_copies (suc n) k = ap (λ l. form k ∷ l) (map_copies n k)

pub form_array : (item : HlType) (count : ℕ) → form (kind.Array item count) ≡ tuple_kind (map form (replicate count item))
form_array item count = form_at (kind.Array item count) (HlType-F.Array item count) (kind.outs-Array item count) ∙ ap tuple_kind (sym (map_copies count item))

-- the encodings of tuples and arrays
abbrev layer_value : HlValue-F HlValue → HlType-F HlType → Option Value
layer_value w x = encode_at (map-HlValue HlValue Encoding encoded w) x

opened : (v : HlValue) (k : HlType) (x : HlType-F HlType) (c : Value) → out-HlType k ≡ x → encoded v k ≡ Some c → layer_value (out-HlValue v) x ≡ Some c
opened v k x c is e = ap (layer_value (out-HlValue v)) (sym is) ∙ sym (ap (λ f. f k) (fold_out-HlValue Encoding encode_step v)) ∙ e

-- a value whose parts are encoded at types
pub record Parts (make : List HlValue → HlValue-F HlValue) (v : HlValue) (ks : List HlType) (c : Value) : Type 0 where
  pub parts : List HlValue
  pub is : out-HlValue v ≡ make parts
  pub cores : List Value
  pub encodes : at_each (map encoded parts) ks ≡ Some cores
  pub core : tuple_value cores ≡ c

tuple_by : (v : HlValue) (w : HlValue-F HlValue) (ks : List HlType) (c : Value) → out-HlValue v ≡ w → layer_value w (HlType-F.Tuple ks) ≡ Some c → Parts HlValue-F.Tuple v ks c
tuple_by v (HlValue-F.Tuple vs) ks c is e =
    let m = mapped tuple_value (at_each (map encoded vs) ks) c e in
    record { parts = vs; is = is; cores = m.from; encodes = m.was; core = m.is }
tuple_by v _ ks c is e = absurd (cc)

pub tuple_parts : (v : HlValue) (ks : List HlType) (c : Value) → encoded v (kind.Tuple ks) ≡ Some c → Parts HlValue-F.Tuple v ks c
tuple_parts v ks c e = tuple_by v (out-HlValue v) ks c refl (opened v (kind.Tuple ks) (HlType-F.Tuple ks) c (kind.outs-Tuple ks) e)

each_of_all : (vs : List HlValue) (item : HlType) → at_each (map encoded vs) (replicate (length vs) item) ≡ at_all (map encoded vs) item
each_of_all [] item = refl
each_of_all (v ∷ vs) item = ap (beside (λ y ys. y ∷ ys) (encoded v item)) (each_of_all vs item)

counted : (b : Bool) (o : Option Value) (c : Value) → (if b then o else None) ≡ Some c → (b ≡ true) × (o ≡ Some c)
counted true o c e = (refl, e)
counted false o c e = absurd (cc)

array_by : (v : HlValue) (w : HlValue-F HlValue) (item : HlType) (count : ℕ) (c : Value) → out-HlValue v ≡ w → layer_value w (HlType-F.Array item count) ≡ Some c →
    Parts HlValue-F.Array v (replicate count item) c
array_by v (HlValue-F.Array vs) item count c is e =
    let b = counted (nat_eq (length (map encoded vs)) count) (option_map tuple_value (at_all (map encoded vs) item)) c e in
    let long : length vs ≡ count = sym (length-map vs encoded) ∙ eqb-true (length (map encoded vs)) count b.0 in
    let m = mapped tuple_value (at_all (map encoded vs) item) c b.1 in
    record { parts = vs; is = is; cores = m.from; encodes = ap (λ n. at_each (map encoded vs) (replicate n item)) (sym long) ∙ each_of_all vs item ∙ m.was; core = m.is }
array_by v _ item count c is e = absurd (cc)

pub array_parts : (v : HlValue) (item : HlType) (count : ℕ) (c : Value) → encoded v (kind.Array item count) ≡ Some c → Parts HlValue-F.Array v (replicate count item) c
array_parts v item count c e =
    array_by v (out-HlValue v) item count c refl (opened v (kind.Array item count) (HlType-F.Array item count) c (kind.outs-Array item count) e)
