-- Whether values are of types, by their parts.
use Rattle.std.proofs.Common.{◌≡◌, ℕ, zero, suc, ◌+◌, ◌-◌, ◌*◌, ◌^◌, ◌<◌, ◌≤◌, Bool, true, false, ◌&&◌, nat_lt, List, [], ◌∷◌, length, map, take, drop, get_or, Option, Some, None, option_map, is_some, refl, sym, ap, ◌∙◌, arith, IsTrue, lt-ltb, length-drop}
use Rattle.std.specs.Prelude.{slice_get, option_and_then}
use Rattle.std.proofs.lemmas.Bool.{ltb-true, ltb-false}
use Rattle.std.proofs.lemmas.List.{drop_more}
use Rattle.std.proofs.Math.Nat.{pow-succ'}
use Rattle.hl_data.specs.declared.value.HlValue.{HlValue}
use Rattle.hl_data.specs.declared.value.HlValue.TheVariants as value
use Rattle.hl_syntax.specs.declared.kinds.HlType.{HlType}
use Rattle.hl_syntax.specs.declared.kinds.HlType.TheVariants as kind
use Rattle.simplicity.specs.Types.{Value, UnitValue, Inl, Inr, Pair}
use Rattle.simplicity.specs.Tuples.{tuple_value}
use Rattle.simplicityhl.specs.Kinds.{bound_level, is_bound}
use Rattle.hl_types.proofs.Parts.{bound_parts, sound-List}
use Rattle.simplicityhl.specs.Kinds.{is_sound}
use Rattle.hl_meaning.specs.Values.{encoded, at_each, at_all, list_value, beside}
use Rattle.hl_values.proofs.Coding.{besides}
use Rattle.hl_values.proofs.Encoding.{encoded-List, kinds_at}

pub both_ways : (a b : Bool) → (a ≡ true → b ≡ true) → (b ≡ true → a ≡ true) → a ≡ b
both_ways true true f g = refl
both_ways true false f g = sym (f refl)
both_ways false true f g = g refl
both_ways false false f g = refl

less_alike : (a b c d : ℕ) → (a < b → c < d) → (c < d → a < b) → nat_lt a b ≡ nat_lt c d
less_alike a b c d f g = both_ways (nat_lt a b) (nat_lt c d) (λ h. lt-ltb c d (f (ltb-true a b h))) (λ h. lt-ltb a b (g (ltb-true c d h)))

pub is_some_map : {A B : Type 0} (f : A → B) (o : Option A) → is_some (option_map f o) ≡ is_some o
is_some_map f (Some a) = refl
is_some_map f None = refl

is_some_beside : {A B C : Type 0} (join : A → B → C) (a : Option A) (b : Option B) → is_some (beside join a b) ≡ is_some a && is_some b
is_some_beside join (Some a) (Some b) = refl
is_some_beside join (Some a) None = refl
is_some_beside join None b = refl

and_false : (a : Bool) → a && false ≡ false
and_false true = refl
and_false false = refl

and_true : (a : Bool) → a && true ≡ a
and_true true = refl
and_true false = refl

-- One part more.

module _ (parts : List HlValue) (i : ℕ) (part : HlValue) (less : i < length parts) (is : part ≡ get_or parts i part) where
  the_rest : drop i parts ≡ part ∷ drop (i + 1) parts
  the_rest = drop_more parts i part less ∙ ap (λ v. v ∷ drop (i + 1) parts) (sym is)

  part_then : (kinds : List HlType) (k : HlType) → slice_get kinds i ≡ Some k →
      is_some (at_each (map encoded (drop i parts)) (drop i kinds)) ≡ is_some (encoded part k) && is_some (at_each (map encoded (drop (i + 1) parts)) (drop (i + 1) kinds))
  part_then kinds k at = rw (the_rest, kinds_at kinds i k at) (is_some_beside (λ c cs. c ∷ cs) (encoded part k) (at_each (map encoded (drop (i + 1) parts)) (drop (i + 1) kinds)))

  pub part_passes : (kinds : List HlType) (k : HlType) (whole : Bool) → slice_get kinds i ≡ Some k → is_some (encoded part k) ≡ true →
      is_some (at_each (map encoded (drop i parts)) (drop i kinds)) ≡ whole → is_some (at_each (map encoded (drop (i + 1) parts)) (drop (i + 1) kinds)) ≡ whole
  part_passes kinds k whole at of_kind h = sym (part_then kinds k at ∙ ap (λ b. b && is_some (at_each (map encoded (drop (i + 1) parts)) (drop (i + 1) kinds))) of_kind) ∙ h

  pub part_fails : (kinds : List HlType) (k : HlType) (whole : Bool) → slice_get kinds i ≡ Some k → is_some (encoded part k) ≡ false →
      is_some (at_each (map encoded (drop i parts)) (drop i kinds)) ≡ whole → false ≡ whole
  part_fails kinds k whole at unlike h = sym (part_then kinds k at ∙ ap (λ b. b && is_some (at_each (map encoded (drop (i + 1) parts)) (drop (i + 1) kinds))) unlike) ∙ h

pub unlike_counts : (parts : List HlValue) (kinds : List HlType) → (length parts ≡ length kinds → ⊥) → is_some (at_each (map encoded parts) kinds) ≡ false
unlike_counts [] [] h = absurd (h refl)
unlike_counts [] (k ∷ kinds) h = refl
unlike_counts (v ∷ parts) [] h = refl
unlike_counts (v ∷ parts) (k ∷ kinds) h =
    let rest = unlike_counts parts kinds (λ same. h (ap suc same)) in
    is_some_beside (λ c cs. c ∷ cs) (encoded v k) (at_each (map encoded parts) kinds) ∙ ap (λ b. is_some (encoded v k) && b) rest ∙ and_false (is_some (encoded v k))

-- Values by their parts.

list_is_there : (level : ℕ) (cs : List Value) → is_some (list_value level cs) ≡ nat_lt (length cs) (2 ^ suc level)
list_is_there zero [] = refl
list_is_there zero (c ∷ []) = refl
list_is_there zero (c ∷ d ∷ cs) = both_ways false (nat_lt (suc (suc (length cs))) (2 ^ suc zero)) (λ h. absurd (cc)) (λ h. absurd (let less = ltb-true (suc (suc (length cs))) (2 ^ suc zero) h in omega (arith, less)))
list_is_there (suc level) cs =
    let twice : 2 ^ suc (suc level) ≡ 2 * 2 ^ suc level = pow-succ' 2 (suc level) in
    elim (nat_lt (length cs) (2 ^ suc level)) as (λ b. nat_lt (length cs) (2 ^ suc level) ≡ b → is_some (list_value (suc level) cs) ≡ nat_lt (length cs) (2 ^ suc (suc level))) [
      | true ↦ λ less. rw less (is_some_map (Pair (Inl UnitValue)) (list_value level cs) ∙ list_is_there level cs ∙ less_alike (length cs) (2 ^ suc level) (length cs) (2 ^ suc (suc level)) (λ h. omega (arith, twice, h)) (λ h. ltb-true _ _ less))
      | false ↦ λ more. rw more (is_some_map (Pair (Inr (tuple_value (take (2 ^ suc level) cs)))) (list_value level (drop (2 ^ suc level) cs)) ∙ list_is_there level (drop (2 ^ suc level) cs)
          ∙ less_alike (length (drop (2 ^ suc level) cs)) (2 ^ suc level) (length cs) (2 ^ suc (suc level)) (λ h. omega (arith, twice, h, length-drop (2 ^ suc level) cs)) (λ h. long (length cs) (2 ^ suc level) more (omega (arith, twice, h)) (length-drop (2 ^ suc level) cs)))
    ] refl
  where
    long : (n p : ℕ) {m : ℕ} → nat_lt n p ≡ false → n < 2 * p → m ≡ n - p → m < p
    long n p more less e = let most = ltb-false n p more in omega (arith, most, less, e)

all_long : (vs : List HlValue) (k : HlType) (cs : List Value) → at_all (map encoded vs) k ≡ Some cs → length cs ≡ length vs
all_long [] k [] h = refl
all_long [] k (c ∷ cs) h = absurd (cc)
all_long (v ∷ vs) k cs h =
    let b = besides (λ c cs. c ∷ cs) (encoded v k) (at_all (map encoded vs) k) cs h in
    ap length b.is ∙ ap suc (all_long vs k b.right b.right_was)

pub of_list : (v : HlValue) (k item : HlType) (items : List HlValue) (bound : ℕ) → v ≡ value.List items → k ≡ kind.List item bound → IsTrue (is_bound bound) →
    is_some (encoded v k) ≡ nat_lt (length items) bound && is_some (at_all (map encoded items) item)
of_list v k item items bound v_is k_is sound = rw (v_is, k_is) (ap is_some (encoded-List items item bound) ∙ listed (at_all (map encoded items) item) refl)
  where
    listed : (o : Option (List Value)) → at_all (map encoded items) item ≡ o → is_some (option_and_then (list_value (bound_level bound)) o) ≡ nat_lt (length items) bound && is_some o
    listed None is = sym (and_false (nat_lt (length items) bound))
    listed (Some cs) is =
        list_is_there (bound_level bound) cs
        ∙ ap (λ n. nat_lt n (2 ^ suc (bound_level bound))) (all_long items item cs is)
        ∙ ap (nat_lt (length items)) (sym (bound_parts bound sound).1)
        ∙ sym (and_true (nat_lt (length items) bound))

second : (a b : Bool) → IsTrue (a && b) → IsTrue b
second true b h = h
second false b h = cc

pub bound_sound : (k item : HlType) (bound : ℕ) → k ≡ kind.List item bound → IsTrue (is_sound k) → IsTrue (is_bound bound)
bound_sound k item bound is h = second (is_sound item) (is_bound bound) (rw (is, sound-List item bound) at h)

pub not_below : (a b : ℕ) → b ≤ a → nat_lt a b ≡ false
not_below a b h = sym (both_ways false (nat_lt a b) (λ e. absurd (cc)) (λ e. absurd (let less = ltb-true a b e in omega (arith, less, h))))
