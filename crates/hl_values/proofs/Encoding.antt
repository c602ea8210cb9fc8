-- Parts and items that are encoded one after the other.
use Rattle.std.proofs.Common.{◌≡◌, ℕ, zero, suc, ◌+◌, ◌*◌, ◌^◌, ◌<◌, Bool, true, false, ◌&&◌, nat_eq, nat_lt, List, [], ◌∷◌, ◌++◌, length, map, drop, get_or, Option, Some, None, option_map, refl, sym, ap, ◌∙◌, arith, add-one, IsTrue, append-nil, length-drop, if◌then◌else◌}
use Rattle.std.specs.Prelude.{IsSome, slice_get, option_and_then}
use Rattle.std.specs.List.{list_all}
use Rattle.std.proofs.lemmas.Bool.{ltb-true}
use Rattle.std.proofs.lemmas.List.{drop_more}
use Rattle.std.proofs.Math.Nat.{pow-succ'}
use Rattle.core_data.specs.declared.data.CoreValue.{CoreValue}
use Rattle.core_data.specs.Data.{value_of, values_of}
use Rattle.hl_data.specs.declared.value.HlValue.{HlValue}
use Rattle.hl_data.specs.declared.value.HlValue.TheOpen.{HlValue-F}
use Rattle.hl_data.specs.declared.value.HlValue.TheVariants as value
use Rattle.hl_syntax.specs.declared.kinds.HlType.{HlType}
use Rattle.hl_syntax.specs.declared.kinds.HlType.TheOpen.{HlType-F}
use Rattle.hl_syntax.specs.declared.kinds.HlType.TheVariants as kind
use Rattle.simplicity.specs.Types.{Value}
use Rattle.simplicity.specs.Tuples.{tuple_value}
use Rattle.simplicityhl.specs.Kinds.{bound_level}
use Rattle.hl_meaning.specs.Values.{encoded, at_each, at_all, list_value, beside}
use Rattle.hl_values.specs.Last.{TakesLast}
use Rattle.simplicityhl.specs.Kinds.{is_sound}
use Rattle.hl_meaning.specs.Entries.{IsValueOf}
use Rattle.hl_values.proofs.Coding.{encode_rolled}

-- core values before those of the rest
abbrev pub ahead : List CoreValue → Option (List Value) → Option (List Value)
ahead cores rest = option_map (λ cs. values_of cores ++ cs) rest

ahead_next : (cores : List CoreValue) (core : CoreValue) (rest : Option (List Value)) → ahead cores (beside (λ c cs. c ∷ cs) (Some (value_of core)) rest) ≡ ahead (cores ++ core ∷ []) rest
ahead_next cores core None = refl
ahead_next cores core (Some cs) = ap Some (pushed cores core cs)
  where
    pushed : (cores : List CoreValue) (core : CoreValue) (cs : List Value) → values_of cores ++ value_of core ∷ cs ≡ values_of (cores ++ core ∷ []) ++ cs
    pushed [] core cs = refl
    pushed (c ∷ cores) core cs = ap (λ vs. value_of c ∷ vs) (pushed cores core cs)

ahead_nothing : (cores : List CoreValue) → ahead cores (Some []) ≡ Some (values_of cores)
ahead_nothing cores = ap Some (append-nil (values_of cores))

pub kinds_at : (kinds : List HlType) (i : ℕ) (k : HlType) → slice_get kinds i ≡ Some k → drop i kinds ≡ k ∷ drop (i + 1) kinds
kinds_at [] i k h = absurd (cc)
kinds_at (j ∷ kinds) zero k h = let e : j ≡ k = cc in rw e refl
kinds_at (j ∷ kinds) (suc i) k h = let e : suc i + 1 ≡ suc (i + 1) = omega arith in rw e (kinds_at kinds i k h)

-- the rest is there, where the whole is
ahead_there : (cores : List CoreValue) (rest whole : Option (List Value)) → ahead cores rest ≡ whole → IsSome whole → IsSome rest
ahead_there cores (Some cs) whole e h = refl
ahead_there cores None (Some cs) e h = absurd (cc)
ahead_there cores None None e h = h

beside_there : {A B C : Type 0} (join : A → B → C) (a : Option A) (b : Option B) → IsSome (beside join a b) → IsSome a × IsSome b
beside_there join (Some a) (Some b) h = (refl, refl)
beside_there join (Some a) None h = absurd (cc)
beside_there join None b h = absurd (cc)

both_true : (a b : Bool) → IsTrue (a && b) → IsTrue a × IsTrue b
both_true true b h = (refl, h)
both_true false b h = cc

module _ (parts : List HlValue) (i : ℕ) (part : HlValue) (less : i < length parts) (is : part ≡ get_or parts i part) where
  the_rest : drop i parts ≡ part ∷ drop (i + 1) parts
  the_rest = drop_more parts i part less ∙ ap (λ v. v ∷ drop (i + 1) parts) (sym is)

  -- there is a type for the part
  pub kind_there : (cores : List CoreValue) (kinds : List HlType) (whole : Option (List Value)) → ahead cores (at_each (map encoded (drop i parts)) (drop i kinds)) ≡ whole → IsSome whole → i < length kinds
  kind_there cores kinds whole e h = more (drop i kinds) refl
    where
      more : (left : List HlType) → drop i kinds ≡ left → i < length kinds
      more [] none =
          let e' = rw (the_rest, none) at e in
          let no = ahead_there cores None whole e' h in absurd (cc)
      more (k ∷ left) some = omega (arith, ap length some, length-drop i kinds)

  pub part_next : (cores : List CoreValue) (core : CoreValue) (kinds : List HlType) (k : HlType) (whole : Option (List Value)) → slice_get kinds i ≡ Some k → encoded part k ≡ Some (value_of core) →
      ahead cores (at_each (map encoded (drop i parts)) (drop i kinds)) ≡ whole → ahead (cores ++ core ∷ []) (at_each (map encoded (drop (i + 1) parts)) (drop (i + 1) kinds)) ≡ whole
  part_next cores core kinds k whole at is_core e =
      let e' = rw (the_rest, kinds_at kinds i k at, is_core) at e in
      sym (ahead_next cores core (at_each (map encoded (drop (i + 1) parts)) (drop (i + 1) kinds))) ∙ e'

  pub item_there : (cores : List CoreValue) (k : HlType) (whole : Option (List Value)) → ahead cores (at_all (map encoded (drop i parts)) k) ≡ whole → IsSome whole → IsValueOf part k
  item_there cores k whole e h =
      let e' = rw the_rest at e in
      (beside_there (λ c cs. c ∷ cs) (encoded part k) (at_all (map encoded (drop (i + 1) parts)) k) (ahead_there cores _ whole e' h)).0

  pub item_next : (cores : List CoreValue) (core : CoreValue) (k : HlType) (whole : Option (List Value)) → encoded part k ≡ Some (value_of core) →
      ahead cores (at_all (map encoded (drop i parts)) k) ≡ whole → ahead (cores ++ core ∷ []) (at_all (map encoded (drop (i + 1) parts)) k) ≡ whole
  item_next cores core k whole is_core e =
      let e' = rw (the_rest, is_core) at e in
      sym (ahead_next cores core (at_all (map encoded (drop (i + 1) parts)) k)) ∙ e'

-- each part is of the type at its place, and each type is sound
pub part_there : (parts items : List HlValue) (kinds : List HlType) (i : ℕ) (part : HlValue) (k : HlType) → IsSome (at_each (map encoded parts) kinds) → items ≡ parts → i < length items → part ≡ get_or items i part →
    slice_get kinds i ≡ Some k → IsValueOf part k
part_there parts items kinds i part k h same less is at = go parts kinds i h (rw same at less) (rw same at is) at
  where
    go : (vs : List HlValue) (ks : List HlType) (j : ℕ) → IsSome (at_each (map encoded vs) ks) → j < length vs → part ≡ get_or vs j part → slice_get ks j ≡ Some k → IsValueOf part k
    go [] ks j h less is at = absurd (omega arith)
    go (v ∷ vs) [] j h less is at = absurd (cc)
    go (v ∷ vs) (l ∷ ks) zero h less is at =
        let same_kind : l ≡ k = cc in
        rw (is, ← same_kind) (beside_there (λ c cs. c ∷ cs) (encoded v l) (at_each (map encoded vs) ks) h).0
    go (v ∷ vs) (l ∷ ks) (suc j) h less is at = go vs ks j (beside_there (λ c cs. c ∷ cs) (encoded v l) (at_each (map encoded vs) ks) h).1 (omega arith) is at

pub sound_at : (kinds : List HlType) (i : ℕ) (k : HlType) → IsTrue (list_all (λ kind. kind) (map is_sound kinds)) → slice_get kinds i ≡ Some k → IsTrue (is_sound k)
sound_at [] i k h at = absurd (cc)
sound_at (l ∷ kinds) zero k h at = let same : l ≡ k = cc in rw (← same) (both_true _ _ h).0
sound_at (l ∷ kinds) (suc i) k h at = sound_at kinds i k (both_true _ _ h).1 at

-- Values of a type by their parts.

pub encoded-Tuple : (vs : List HlValue) (ks : List HlType) → encoded (value.Tuple vs) (kind.Tuple ks) ≡ option_map tuple_value (at_each (map encoded vs) ks)
encoded-Tuple vs ks = encode_rolled (HlValue-F.Tuple vs) (HlType-F.Tuple ks) (value.Tuple vs) (kind.Tuple ks) (value.rolls-Tuple vs) (kind.rolls-Tuple ks)

pub encoded-Array : (vs : List HlValue) (k : HlType) (count : ℕ) → encoded (value.Array vs) (kind.Array k count) ≡ (if nat_eq (length (map encoded vs)) count then option_map tuple_value (at_all (map encoded vs) k) else None)
encoded-Array vs k count = encode_rolled (HlValue-F.Array vs) (HlType-F.Array k count) (value.Array vs) (kind.Array k count) (value.rolls-Array vs) (kind.rolls-Array k count)

pub encoded-List : (vs : List HlValue) (k : HlType) (bound : ℕ) → encoded (value.List vs) (kind.List k bound) ≡ option_and_then (list_value (bound_level bound)) (at_all (map encoded vs) k)
encoded-List vs k bound = encode_rolled (HlValue-F.List vs) (HlType-F.List k bound) (value.List vs) (kind.List k bound) (value.rolls-List vs) (kind.rolls-List k bound)

-- what was made of all cores
made_of_all : (cores new : List CoreValue) (count : ℕ) (making : List Value → Option Value) (made : CoreValue) → TakesLast cores new count making made → count ≡ length cores → making (values_of cores) ≡ Some (value_of made)
made_of_all cores new count making made t n = (t.takes [] cores refl (sym n)).1

pub tuple_made : (v : HlValue) (k : HlType) (vs : List HlValue) (ks : List HlType) (cores new : List CoreValue) (count : ℕ) (made : CoreValue) → v ≡ value.Tuple vs → k ≡ kind.Tuple ks →
    at_each (map encoded vs) ks ≡ Some (values_of cores) → count ≡ length cores → TakesLast cores new count (λ cs. Some (tuple_value cs)) made → encoded v k ≡ Some (value_of made)
tuple_made v k vs ks cores new count made v_is k_is parts n t =
    rw (v_is, k_is) (encoded-Tuple vs ks ∙ rw parts (made_of_all cores new count (λ cs. Some (tuple_value cs)) made t n))

counted : {A : Type 0} (b : Bool) (x : Option A) → IsSome (if b then x else None) → (if b then x else None) ≡ x
counted true x h = refl
counted false x h = absurd (cc)

pub array_made : (v : HlValue) (k item : HlType) (bound : ℕ) (vs : List HlValue) (cores new : List CoreValue) (count : ℕ) (made : CoreValue) → v ≡ value.Array vs → k ≡ kind.Array item bound → IsValueOf v k →
    at_all (map encoded vs) item ≡ Some (values_of cores) → count ≡ length cores → TakesLast cores new count (λ cs. Some (tuple_value cs)) made → encoded v k ≡ Some (value_of made)
array_made v k item bound vs cores new count made v_is k_is there parts n t =
    let there' = rw (v_is, k_is, encoded-Array vs item bound) at there in
    rw (v_is, k_is) (encoded-Array vs item bound ∙ counted (nat_eq (length (map encoded vs)) bound) (option_map tuple_value (at_all (map encoded vs) item)) there'
    ∙ rw parts (made_of_all cores new count (λ cs. Some (tuple_value cs)) made t n))

pub list_made : (v : HlValue) (k item : HlType) (bound level : ℕ) (vs : List HlValue) (cores new : List CoreValue) (count : ℕ) (made : CoreValue) → v ≡ value.List vs → k ≡ kind.List item bound → level ≡ bound_level bound →
    at_all (map encoded vs) item ≡ Some (values_of cores) → count ≡ length cores → TakesLast cores new count (list_value level) made → encoded v k ≡ Some (value_of made)
list_made v k item bound level vs cores new count made v_is k_is l parts n t =
    rw (v_is, k_is) (encoded-List vs item bound ∙ rw (parts, ← l) (made_of_all cores new count (list_value level) made t n))

list_few : (level : ℕ) (cs : List Value) → IsSome (list_value level cs) → length cs < 2 ^ (level + 1)
list_few zero [] h = omega arith
list_few zero (c ∷ []) h = omega arith
list_few zero (c ∷ d ∷ cs) h = absurd (cc)
list_few (suc level) cs h =
    let twice : 2 ^ suc (suc level) ≡ 2 * 2 ^ suc level = pow-succ' 2 (suc level) in
    let same : suc level + 1 ≡ suc (suc level) = omega arith in
    rw same (elim (nat_lt (length cs) (2 ^ suc level)) as (λ b. nat_lt (length cs) (2 ^ suc level) ≡ b → length cs < 2 ^ suc (suc level)) [
      | true ↦ λ less. omega (arith, ltb-true _ _ less)
      | false ↦ λ more.
          let h' = rw more at h in
          let few = rw add-one at (list_few level (drop (2 ^ suc level) cs) (mapped_there _ (list_value level (drop (2 ^ suc level) cs)) h')) in
          omega (arith, few, length-drop (2 ^ suc level) cs)
    ] refl)
  where
    mapped_there : {A B : Type 0} (f : A → B) (o : Option A) → IsSome (option_map f o) → IsSome o
    mapped_there f (Some a) h = refl
    mapped_there f None h = h

-- a list has fewer items than its bound
pub list_fits : (v : HlValue) (k item : HlType) (bound level : ℕ) (vs : List HlValue) (cores : List CoreValue) (count : ℕ) → v ≡ value.List vs → k ≡ kind.List item bound → IsValueOf v k → level ≡ bound_level bound →
    at_all (map encoded vs) item ≡ Some (values_of cores) → count ≡ length cores → count < 2 ^ (level + 1)
list_fits v k item bound level vs cores count v_is k_is there l parts n =
    let there' = rw (v_is, k_is, encoded-List vs item bound, parts, ← l) at there in
    let few = list_few level (values_of cores) there' in omega (arith, few, length_values cores)
  where
    length_values : (cores : List CoreValue) → length (values_of cores) ≡ length cores
    length_values [] = refl
    length_values (c ∷ cores) = ap suc (length_values cores)
