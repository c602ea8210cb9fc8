-- A plan that picks a byte gives its value on the tuple, and each place has such a plan.
use Rattle.std.proofs.Common.{◌≡◌, ℕ, zero, suc, ◌+◌, ◌-◌, ◌/◌, ◌<◌, ◌≤◌, List, [], ◌∷◌, length, take, drop, slice_get, Some, refl, sym, ap, ◌∙◌, arith, length-take, length-drop, Bool, true, false, nat_lt}
use Rattle.std.proofs.lemmas.Bool.Decides.{nat_tests}
use Rattle.simplicity.specs.Types.{Value}
use Rattle.simplicity.specs.Terms.{meaning}
use Rattle.small_terms.specs.Plan.{Plan, Whole, First, Rest, Picks, whole, first, rest, term_of, count_of}
use Rattle.simplicity.specs.Tuples.{tuple_value}
use Rattle.simplicity.proofs.Tuples.{tuple_pair}

get_take : {X : Type 0} (xs : List X) (n i : ℕ) (x : X) → slice_get xs i ≡ Some x → i < n → slice_get (take n xs) i ≡ Some x
get_take [] n i x there less = cc
get_take (z ∷ xs) zero i x there less = absurd (omega arith)
get_take (z ∷ xs) (suc n) zero x there less = there
get_take (z ∷ xs) (suc n) (suc i) x there less = get_take xs n i x there (omega arith)

get_drop : {X : Type 0} (xs : List X) (n i j : ℕ) (x : X) → slice_get xs i ≡ Some x → i ≡ n + j → slice_get (drop n xs) j ≡ Some x
get_drop [] n i j x there at = cc
get_drop (z ∷ xs) zero i j x there at = let e : i ≡ j = omega arith in rw e at there
get_drop (z ∷ xs) (suc n) zero j x there at = absurd (omega arith)
get_drop (z ∷ xs) (suc n) (suc i) j x there at = get_drop xs n i j x there (omega arith)

one_value : (vs : List Value) (place : ℕ) (v : Value) → length vs ≡ 1 → place ≡ 0 → slice_get vs place ≡ Some v → tuple_value vs ≡ v
one_value [] place v one at there = absurd (omega arith)
one_value (x ∷ []) zero v one at there = cc
one_value (x ∷ []) (suc place) v one at there = absurd (omega arith)
one_value (x ∷ y ∷ more) place v one at there = absurd (omega arith)

-- a plan that picks a place gives the value there
pub picked : {count place : ℕ} {plan : Plan} → Picks count place plan → (vs : List Value) (v : Value) → length vs ≡ count → slice_get vs place ≡ Some v → meaning (term_of plan) [] (tuple_value vs) ≡ Some v
picked {place = place} (whole one at) vs v long there = ap Some (one_value vs place v (long ∙ one) at there)
picked {count} {place} (first some less part) vs v long there =
    let few : length (take (length vs / 2) vs) ≡ count / 2 = omega (arith, length-take (length vs / 2) vs) in
    rw (tuple_pair vs (omega arith)) (picked part (take (length vs / 2) vs) v few (get_take vs (length vs / 2) place v there (omega arith)))
picked {count} {place} (rest some past part) vs v long there =
    let few : length (drop (length vs / 2) vs) ≡ count - count / 2 = omega (arith, length-drop (length vs / 2) vs) in
    rw (tuple_pair vs (omega arith)) (picked part (drop (length vs / 2) vs) v few (get_drop vs (length vs / 2) place (place - count / 2) v there (omega arith)))

picks_side : (count place : ℕ) → 1 < count → place < count → (b : Bool) → nat_lt place (count / 2) ≡ b → (place < count / 2 → (plan : Plan) × Picks (count / 2) place plan) → (place - count / 2 < count - count / 2 → (plan : Plan) × Picks (count - count / 2) (place - count / 2) plan) → (plan : Plan) × Picks count place plan
picks_side count place some less true test front back =
    let within : place < count / 2 = grind (arith, nat_tests) in
    let p : (plan : Plan) × Picks (count / 2) place plan = front within in
    (First count p.0, first some within p.1)
picks_side count place some less false test front back =
    let past : count / 2 ≤ place = grind (arith, nat_tests) in
    let p : (plan : Plan) × Picks (count - count / 2) (place - count / 2) plan = back (omega arith) in
    (Rest count p.0, rest some past p.1)

-- each place has a plan
picks_within : (turns count place : ℕ) → count ≤ turns → place < count → (plan : Plan) × Picks count place plan
picks_within zero count place few less = absurd (omega arith)
picks_within (suc turns) zero place few less = absurd (omega arith)
picks_within (suc turns) (suc zero) place few less = (Whole, whole refl (omega arith))
picks_within (suc turns) (suc (suc n)) place few less =
    picks_side (suc (suc n)) place (omega arith) less (nat_lt place (suc (suc n) / 2)) refl
    (λ p. picks_within turns (suc (suc n) / 2) place (omega arith) p)
    (λ p. picks_within turns (suc (suc n) - suc (suc n) / 2) (place - suc (suc n) / 2) (omega arith) p)

pub picks : (count place : ℕ) → place < count → (plan : Plan) × Picks count place plan
picks count place less = picks_within count count place (omega arith) less

pub picks_count : {count place : ℕ} {plan : Plan} → Picks count place plan → count_of plan ≡ count
picks_count (whole one at) = sym one
picks_count (first some less part) = refl
picks_count (rest some past part) = refl
