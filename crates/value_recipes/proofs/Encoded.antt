-- Parts of values that are of a type, each of a type of its own.
use Rattle.std.proofs.Common.{◌≡◌, ℕ, zero, suc, ◌+◌, ◌<◌, Bool, true, false, ◌&&◌, List, [], ◌∷◌, length, map, drop, get_or, Option, Some, None, refl, arith, IsTrue}
use Rattle.std.specs.Prelude.{IsSome, slice_get}
use Rattle.std.specs.List.{list_all}
use Rattle.hl_data.specs.declared.value.HlValue.{HlValue}
use Rattle.hl_syntax.specs.declared.kinds.HlType.{HlType}
use Rattle.hl_meaning.specs.Entries.{IsValueOf}
use Rattle.hl_meaning.specs.Values.{encoded, at_each, at_all, beside}
use Rattle.simplicityhl.specs.Kinds.{is_sound}

pub kinds_at : (kinds : List HlType) (i : ℕ) (k : HlType) → slice_get kinds i ≡ Some k → drop i kinds ≡ k ∷ drop (i + 1) kinds
kinds_at [] i k h = absurd (cc)
kinds_at (j ∷ kinds) zero k h = let e : j ≡ k = cc in rw e refl
kinds_at (j ∷ kinds) (suc i) k h = let e : suc i + 1 ≡ suc (i + 1) = omega arith in rw e (kinds_at kinds i k h)

beside_there : {A B C : Type 0} (join : A → B → C) (a : Option A) (b : Option B) → IsSome (beside join a b) → IsSome a × IsSome b
beside_there join (Some a) (Some b) h = (refl, refl)
beside_there join (Some a) None h = absurd (cc)
beside_there join None b h = absurd (cc)

pub both_true : (a b : Bool) → IsTrue (a && b) → IsTrue a × IsTrue b
both_true true b h = (refl, h)
both_true false b h = cc

-- there is a type for each part, it is sound, and the part is of it
pub kind_there : (parts items : List HlValue) (kinds : List HlType) (i : ℕ) → IsSome (at_each (map encoded parts) kinds) → items ≡ parts → i < length items → i < length kinds
kind_there parts items kinds i h same less = go parts kinds i h (rw same at less)
  where
    go : (vs : List HlValue) (ks : List HlType) (j : ℕ) → IsSome (at_each (map encoded vs) ks) → j < length vs → j < length ks
    go [] ks j h less = absurd (omega arith)
    go (v ∷ vs) [] j h less = absurd (cc)
    go (v ∷ vs) (l ∷ ks) zero h less = omega arith
    go (v ∷ vs) (l ∷ ks) (suc j) h less = let more = go vs ks j (beside_there (λ c cs. c ∷ cs) (encoded v l) (at_each (map encoded vs) ks) h).1 (omega arith) in omega arith

pub part_there : (parts items : List HlValue) (kinds : List HlType) (i : ℕ) (part : HlValue) (k : HlType) → IsSome (at_each (map encoded parts) kinds) → items ≡ parts → i < length items → part ≡ get_or items i part →
    slice_get kinds i ≡ Some k → IsValueOf part k
part_there parts items kinds i part k h same less is at = go parts kinds i h (rw same at less) (rw same at is) at
  where
    go : (vs : List HlValue) (ks : List HlType) (j : ℕ) → IsSome (at_each (map encoded vs) ks) → j < length vs → part ≡ get_or vs j part → slice_get ks j ≡ Some k → IsValueOf part k
    go [] ks j h less is at = absurd (omega arith)
    go (v ∷ vs) [] j h less is at = absurd (cc)
    go (v ∷ vs) (l ∷ ks) zero h less is at =
        let same_kind : l ≡ k = cc in
        rw (is, ← same_kind) (beside_there (λ c cs. c ∷ cs) (encoded v l) (at_each (map encoded vs) ks) h).0
    go (v ∷ vs) (l ∷ ks) (suc j) h less is at = go vs ks j (beside_there (λ c cs. c ∷ cs) (encoded v l) (at_each (map encoded vs) ks) h).1 (omega arith) is at

pub item_there : (parts items : List HlValue) (i : ℕ) (item : HlValue) (k : HlType) → IsSome (at_all (map encoded parts) k) → items ≡ parts → i < length items → item ≡ get_or items i item → IsValueOf item k
item_there parts items i item k h same less is = go parts i h (rw same at less) (rw same at is)
  where
    go : (vs : List HlValue) (j : ℕ) → IsSome (at_all (map encoded vs) k) → j < length vs → item ≡ get_or vs j item → IsValueOf item k
    go [] j h less is = absurd (omega arith)
    go (v ∷ vs) zero h less is = rw is (beside_there (λ c cs. c ∷ cs) (encoded v k) (at_all (map encoded vs) k) h).0
    go (v ∷ vs) (suc j) h less is = go vs j (beside_there (λ c cs. c ∷ cs) (encoded v k) (at_all (map encoded vs) k) h).1 (omega arith) is

pub sound_at : (kinds : List HlType) (i : ℕ) (k : HlType) → IsTrue (list_all (λ kind. kind) (map is_sound kinds)) → slice_get kinds i ≡ Some k → IsTrue (is_sound k)
sound_at [] i k h at = absurd (cc)
sound_at (l ∷ kinds) zero k h at = let same : l ≡ k = cc in rw (← same) (both_true _ _ h).0
sound_at (l ∷ kinds) (suc i) k h at = sound_at kinds i k (both_true _ _ h).1 at
