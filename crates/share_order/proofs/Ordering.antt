-- A list whose nodes are all in their places is ordered.
use Rattle.std.proofs.Common.{◌≡◌, refl, ap, sym, ◌∙◌, ℕ, zero, suc, ◌+◌, ◌<◌, ◌≤◌, List, [], ◌∷◌, length, take, Some, arith}
use Rattle.std.specs.Prelude.{slice_get}
use Rattle.std.specs.List.{range_with_len}
use Rattle.simplicity.specs.Nodes.{Node, IsPlaced}
use Rattle.simplicity.specs.Order.{post_order, IsOrdered, IsInPlace}
use Rattle.sharing.proofs.Merging.{within_of, there_at}
use Rattle.sharing.proofs.Merged.{same_elements, Split, Less, More, split}
use Rattle.sharing.proofs.Orderly.{Orderly, post_orderly, range_get, range_length}
use Rattle.sharing.proofs.Gathering.{down_of, has_at}

get_take : {A : Type 0} (xs : List A) (k i : ℕ) → i < k → slice_get (take k xs) i ≡ slice_get xs i
get_take xs zero i h = absurd (omega arith)
get_take [] (suc k) i h = refl
get_take (x ∷ xs) (suc k) zero h = refl
get_take (x ∷ xs) (suc k) (suc i) h = get_take xs k i (omega arith)

-- what stands after all of them would stand twice
none_after : (ns : List Node) (done : List ℕ) → Orderly ns done → ((i : ℕ) → i < length ns → slice_get done i ≡ Some i) → length ns < length done → ⊥
none_after ns done o all l =
    let x = there_at done (length ns) l in
    let inside = o.within (length ns) x.0 x.1 in
    let there : slice_get (take (length ns) done) x.0 ≡ Some x.0 = get_take done (length ns) x.0 inside ∙ all x.0 inside in
    let twice = has_at (take (length ns) done) x.0 x.0 there in
    let once = o.once (length ns) x.0 x.1 in
    absurd (cc)

long_enough : (n : ℕ) (done : List ℕ) → ((i : ℕ) → i < n → slice_get done i ≡ Some i) → n ≤ length done
long_enough zero done all = omega arith
long_enough (suc n) done all = let l = within_of done n n (all n (omega arith)) in omega arith

count_is : (ns : List Node) (done : List ℕ) → Orderly ns done → ((i : ℕ) → i < length ns → slice_get done i ≡ Some i) → Split (length ns) (length done) → length done ≡ length ns
count_is ns done o all (Less l) = absurd (none_after ns done o all l)
count_is ns done o all (More l) = let g = long_enough (length ns) done all in omega arith

pub all_in_place : (ns : List Node) → IsPlaced ns → 0 < length ns → ((i : ℕ) → i < length ns → IsInPlace ns i) → IsOrdered ns
all_in_place ns placed full all =
    let done = post_order ns in
    let count = count_is ns done (post_orderly ns (down_of ns placed) full) all (split (length ns) (length done)) in
    same_elements done (range_with_len 0 (length ns)) (count ∙ sym (range_length 0 (length ns)))
    (λ i x h.
    let l : i < length ns = (let a = within_of done i x h in omega arith) in
    let here : Some i ≡ Some x = sym (all i l) ∙ h in
    let e : 0 + i ≡ i = omega arith in
    range_get 0 (length ns) i l ∙ ap Some e ∙ here)

pub full_by : (n : ℕ) → (n ≡ 0 → ⊥) → 0 < n
full_by zero none = absurd (none refl)
full_by (suc n) none = omega arith
