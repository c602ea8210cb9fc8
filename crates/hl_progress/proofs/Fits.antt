-- Values of types by their parts.
use Rattle.std.proofs.Common.{◌≡◌, ℕ, zero, suc, ◌*◌, ◌^◌, ◌<◌, Bool, true, false, ◌&&◌, nat_eq, nat_lt, List, [], ◌∷◌, length, map, take, drop, Option, Some, None, option_map, refl, sym, ap, ◌∙◌, subst, arith, IsTrue, eqb-true, eq-eqb, lt-ltb, ltb-true, length-drop}
use Rattle.std.proofs.lemmas.Bool.{ltb-false}
use Rattle.std.proofs.lemmas.List.{length-map}
use Rattle.std.proofs.Math.Nat.{pow-succ'}
use Rattle.std.specs.Prelude.{IsSome, option_and_then}
use Rattle.hl_data.specs.declared.value.HlValue.{HlValue, map-HlValue}
use Rattle.hl_data.specs.declared.value.HlValue.TheFolds.{fold_out-HlValue}
use Rattle.hl_data.specs.declared.value.HlValue.TheOpen.{HlValue-F}
use Rattle.hl_data.specs.declared.value.HlValue.TheVariants as value
use Rattle.hl_data.specs.declared.value.HlValue.TheViews.{out-HlValue}
use Rattle.hl_syntax.specs.declared.kinds.HlType.{HlType}
use Rattle.hl_syntax.specs.declared.kinds.HlType.TheOpen.{HlType-F}
use Rattle.hl_syntax.specs.declared.kinds.HlType.TheVariants as kind
use Rattle.hl_syntax.specs.declared.kinds.HlType.TheViews.{out-HlType}
use Rattle.simplicity.specs.Tuples.{tuple_value}
use Rattle.simplicity.specs.Types.{Value, UnitValue, Inl, Inr, Pair}
use Rattle.simplicityhl.specs.Kinds.{bound_level, is_bound}
use Rattle.hl_meaning.specs.Values.{Encoding, encoded, encode_step, encode_at, at_each, at_all, list_value, beside, word_of}
use Rattle.hl_meaning.specs.Entries.{IsValueOf}
use Rattle.hl_progress.specs.Held.{AreValuesOf}
use Rattle.hl_typing.proofs.Every.{Every}

-- a layer of a value at a layer of a type
abbrev pub FitsLayer : HlValue-F HlValue → HlType-F HlType → Type 0
FitsLayer w x = IsSome (encode_at (map-HlValue HlValue Encoding encoded w) x)

layer : (v : HlValue) (k : HlType) → encoded v k ≡ encode_at (map-HlValue HlValue Encoding encoded (out-HlValue v)) (out-HlType k)
layer v k = ap (λ f. f k) (fold_out-HlValue Encoding encode_step v)

pub opened : (v : HlValue) (k : HlType) (x : HlType-F HlType) → out-HlType k ≡ x → IsValueOf v k → FitsLayer (out-HlValue v) x
opened v k x is h = subst (FitsLayer (out-HlValue v)) is (subst IsSome (layer v k) h)

pub closed : (w : HlValue-F HlValue) (v : HlValue) (x : HlType-F HlType) (k : HlType) → out-HlValue v ≡ w → out-HlType k ≡ x → FitsLayer w x → IsValueOf v k
closed w v x k is kind_is h = subst IsSome (sym (layer v k)) (subst (λ y. FitsLayer (out-HlValue v) y) (sym kind_is) (subst (λ u. FitsLayer u x) (sym is) h))

second : (a b : Bool) → IsTrue (a && b) → IsTrue b
second true b h = h
second false b h = cc

some_is : {A : Type 0} (o : Option A) → IsSome o → (a : A) × (o ≡ Some a)
some_is (Some a) h = (a, refl)
some_is None h = absurd (cc)

pub mapped_there : {A B : Type 0} (f : A → B) (o : Option A) → IsSome o → IsSome (option_map f o)
mapped_there f (Some a) h = refl
mapped_there f None h = h

pub there_mapped : {A B : Type 0} (f : A → B) (o : Option A) → IsSome (option_map f o) → IsSome o
there_mapped f (Some a) h = refl
there_mapped f None h = h

beside_there : {A B C : Type 0} (join : A → B → C) (a : Option A) (b : Option B) → IsSome (beside join a b) → IsSome a × IsSome b
beside_there join (Some a) (Some b) h = (refl, refl)
beside_there join (Some a) None h = absurd (cc)
beside_there join None b h = absurd (cc)

there_beside : {A B C : Type 0} (join : A → B → C) (a : Option A) (b : Option B) → IsSome a → IsSome b → IsSome (beside join a b)
there_beside join (Some a) (Some b) h k = refl
there_beside join (Some a) None h k = k
there_beside join None b h k = h

-- parts at their types

each_out : (vs : List HlValue) (ks : List HlType) → IsSome (at_each (map encoded vs) ks) → AreValuesOf vs ks
each_out [] [] h = tt
each_out [] (k ∷ ks) h = absurd (cc)
each_out (v ∷ vs) [] h = absurd (cc)
each_out (v ∷ vs) (k ∷ ks) h = let b = beside_there (λ c cs. c ∷ cs) (encoded v k) (at_each (map encoded vs) ks) h in (b.0, each_out vs ks b.1)

each_in : (vs : List HlValue) (ks : List HlType) → AreValuesOf vs ks → IsSome (at_each (map encoded vs) ks)
each_in [] [] h = refl
each_in [] (k ∷ ks) h = absurd h
each_in (v ∷ vs) [] h = absurd h
each_in (v ∷ vs) (k ∷ ks) h = there_beside (λ c cs. c ∷ cs) (encoded v k) (at_each (map encoded vs) ks) h.0 (each_in vs ks h.1)

-- parts at one type

all_out : (vs : List HlValue) (k : HlType) → IsSome (at_all (map encoded vs) k) → Every (λ v. IsValueOf v k) vs
all_out [] k h = tt
all_out (v ∷ vs) k h = let b = beside_there (λ c cs. c ∷ cs) (encoded v k) (at_all (map encoded vs) k) h in (b.0, all_out vs k b.1)

all_in : (vs : List HlValue) (k : HlType) → Every (λ v. IsValueOf v k) vs → IsSome (at_all (map encoded vs) k)
all_in [] k h = refl
all_in (v ∷ vs) k h = there_beside (λ c cs. c ∷ cs) (encoded v k) (at_all (map encoded vs) k) h.0 (all_in vs k h.1)

-- Values of each form.

pub bool_fits : (b : Bool) → IsValueOf (value.Bool b) kind.Bool
bool_fits b = closed (HlValue-F.Bool b) (value.Bool b) HlType-F.Bool kind.Bool (value.outs-Bool b) kind.outs-Bool refl

pub word_fits : (width n : ℕ) (k : HlType) → out-HlType k ≡ HlType-F.UInt width → n < 2 ^ width → IsValueOf (word_of width n) k
word_fits width n k is less =
    closed (HlValue-F.Number (record { width = width; number = n })) (word_of width n) (HlType-F.UInt width) k (value.outs-Number (record { width = width; number = n })) is
    (rw (eq-eqb width width refl, lt-ltb n (2 ^ width) less) refl)

pub tuple_fits : (vs : List HlValue) (k : HlType) (ks : List HlType) → out-HlType k ≡ HlType-F.Tuple ks → AreValuesOf vs ks → IsValueOf (value.Tuple vs) k
tuple_fits vs k ks is h = closed (HlValue-F.Tuple vs) (value.Tuple vs) (HlType-F.Tuple ks) k (value.outs-Tuple vs) is (mapped_there tuple_value (at_each (map encoded vs) ks) (each_in vs ks h))

pub array_fits : (vs : List HlValue) (k item : HlType) (count : ℕ) → out-HlType k ≡ HlType-F.Array item count → length vs ≡ count → Every (λ v. IsValueOf v item) vs → IsValueOf (value.Array vs) k
array_fits vs k item count is long h =
    closed (HlValue-F.Array vs) (value.Array vs) (HlType-F.Array item count) k (value.outs-Array vs) is
    (rw (eq-eqb (length (map encoded vs)) count (length-map vs encoded ∙ long)) (mapped_there tuple_value (at_all (map encoded vs) item) (all_in vs item h)))

pub nothing_fits : (k item : HlType) → out-HlType k ≡ HlType-F.Option item → IsValueOf value.Nothing k
nothing_fits k item is = closed HlValue-F.Nothing value.Nothing (HlType-F.Option item) k value.outs-Nothing is refl

pub some_fits : (v : HlValue) (k item : HlType) → out-HlType k ≡ HlType-F.Option item → IsValueOf v item → IsValueOf (value.Some v) k
some_fits v k item is h = closed (HlValue-F.Some v) (value.Some v) (HlType-F.Option item) k (value.outs-Some v) is (mapped_there Inr (encoded v item) h)

pub left_fits : (v : HlValue) (k left right : HlType) → out-HlType k ≡ HlType-F.Either left right → IsValueOf v left → IsValueOf (value.Left v) k
left_fits v k left right is h = closed (HlValue-F.Left v) (value.Left v) (HlType-F.Either left right) k (value.outs-Left v) is (mapped_there Inl (encoded v left) h)

pub right_fits : (v : HlValue) (k left right : HlType) → out-HlType k ≡ HlType-F.Either left right → IsValueOf v right → IsValueOf (value.Right v) k
right_fits v k left right is h = closed (HlValue-F.Right v) (value.Right v) (HlType-F.Either left right) k (value.outs-Right v) is (mapped_there Inr (encoded v right) h)

-- Values of each type.

pub record TupleOf (w : HlValue-F HlValue) (ks : List HlType) : Type 0 where
  pub parts : List HlValue
  pub is : w ≡ HlValue-F.Tuple parts
  pub fit : AreValuesOf parts ks

pub tuple_of : (w : HlValue-F HlValue) (ks : List HlType) → FitsLayer w (HlType-F.Tuple ks) → TupleOf w ks
tuple_of (HlValue-F.Tuple vs) ks h = record { parts = vs; is = refl; fit = each_out vs ks (there_mapped tuple_value (at_each (map encoded vs) ks) h) }
tuple_of _ ks h = absurd (cc)

pub record ItemsOf (w : HlValue-F HlValue) (make : List HlValue → HlValue-F HlValue) (count : List HlValue → Type 0) (k : HlType) : Type 0 where
  pub items : List HlValue
  pub is : w ≡ make items
  pub many : count items
  pub fit : Every (λ v. IsValueOf v k) items

pub array_of : (w : HlValue-F HlValue) (k : HlType) (count : ℕ) → FitsLayer w (HlType-F.Array k count) → ItemsOf w HlValue-F.Array (λ vs. length vs ≡ count) k
array_of (HlValue-F.Array vs) k count h =
    elim (nat_eq (length (map encoded vs)) count) as (λ b. nat_eq (length (map encoded vs)) count ≡ b → ItemsOf (HlValue-F.Array vs) HlValue-F.Array (λ vs. length vs ≡ count) k) [
      | true ↦ λ is. record {
        items = vs;
        is = refl;
        many = sym (length-map vs encoded) ∙ eqb-true (length (map encoded vs)) count is;
        fit = all_out vs k (there_mapped tuple_value (at_all (map encoded vs) k) (rw is at h));
      }
      | false ↦ λ is. let h' = rw is at h in absurd (cc)
    ] refl
array_of _ k count h = absurd (cc)

pub list_of : (w : HlValue-F HlValue) (k : HlType) (bound : ℕ) → FitsLayer w (HlType-F.List k bound) → ItemsOf w HlValue-F.List (λ vs. Unit {0}) k
list_of (HlValue-F.List vs) k bound h = record { items = vs; is = refl; many = tt; fit = all_out vs k (there_first (list_value (bound_level bound)) (at_all (map encoded vs) k) h) }
  where
    there_first : {A B : Type 0} (f : A → Option B) (o : Option A) → IsSome (option_and_then f o) → IsSome o
    there_first f (Some a) h = refl
    there_first f None h = h
list_of _ k bound h = absurd (cc)

-- a list that isn't longer than its bound is a value

list_there : (level : ℕ) (cs : List Value) → length cs < 2 ^ suc level → IsSome (list_value level cs)
list_there zero [] h = refl
list_there zero (c ∷ []) h = refl
list_there zero (c ∷ d ∷ cs) h = absurd (omega arith)
list_there (suc level) cs h =
    let twice : 2 ^ suc (suc level) ≡ 2 * 2 ^ suc level = pow-succ' 2 (suc level) in
    elim (nat_lt (length cs) (2 ^ suc level)) as (λ b. nat_lt (length cs) (2 ^ suc level) ≡ b → IsSome (list_value (suc level) cs)) [
      | true ↦ λ less. rw less (mapped_there (Pair (Inl UnitValue)) (list_value level cs) (list_there level cs (ltb-true (length cs) (2 ^ suc level) less)))
      | false ↦ λ more. rw more (mapped_there (Pair (Inr (tuple_value (take (2 ^ suc level) cs)))) (list_value level (drop (2 ^ suc level) cs))
          (list_there level (drop (2 ^ suc level) cs) (omega (arith, twice, h, ltb-false (length cs) (2 ^ suc level) more, length-drop (2 ^ suc level) cs))))
    ] refl

record Listed (o : Option (List Value)) (n : ℕ) : Type 0 where
  cells : List Value
  is : o ≡ Some cells
  long : length cells ≡ n

listed : (vs : List HlValue) (k : HlType) → Every (λ v. IsValueOf v k) vs → Listed (at_all (map encoded vs) k) (length vs)
listed [] k h = record { cells = []; is = refl; long = refl }
listed (v ∷ vs) k h =
    let rest = listed vs k h.1 in let one = some_is (encoded v k) h.0 in
    record {
      cells = one.0 ∷ rest.cells;
      is = ap (λ o. beside (λ c cs. c ∷ cs) o (at_all (map encoded vs) k)) one.1 ∙ ap (beside (λ c cs. c ∷ cs) (Some one.0)) rest.is;
      long = ap suc rest.long;
    }

pub list_fits : (vs : List HlValue) (k item : HlType) (bound : ℕ) → out-HlType k ≡ HlType-F.List item bound → IsTrue (is_bound bound) → length vs < bound → Every (λ v. IsValueOf v item) vs → IsValueOf (value.List vs) k
list_fits vs k item bound is sound few h =
    let all = listed vs item h in
    let bound_is : bound ≡ 2 ^ suc (bound_level bound) = eqb-true bound (2 ^ suc (bound_level bound)) (second (nat_lt (bound_level bound) 16) (nat_eq bound (2 ^ suc (bound_level bound))) sound) in
    let there : IsSome (list_value (bound_level bound) all.cells) = list_there (bound_level bound) all.cells (omega (arith, all.long, few, bound_is)) in
    let found : IsSome (option_and_then (list_value (bound_level bound)) (at_all (map encoded vs) item)) = rw all.is there in
    closed (HlValue-F.List vs) (value.List vs) (HlType-F.List item bound) k (value.outs-List vs) is found
