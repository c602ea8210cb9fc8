-- What the code emits, for the plan that there is.
use Rattle.std.proofs.Common.{◌≡◌, ℕ, ◌-◌, ◌/◌, ◌<◌, ◌≤◌, Bool, true, false, List, length, slice_get, Some, None, refl, arith, nat_lt}
use Rattle.std.proofs.lemmas.Bool.Decides.{nat_tests}
use Rattle.small_terms.specs.declared.entries.SmallNode.TheVariants as code
use Rattle.small_source.specs.Small.{SmallBody, Named, Paired}
use Rattle.small_terms.specs.declared.entries.Entry.{Entry}
use Rattle.small_terms.specs.Emitting.{Adds, Emits, whole, first, rest, both}
use Rattle.small_terms.specs.Plan.{Plan, Whole, First, Rest, Both, Picks, Makes, named, paired, IsFirst}
use Rattle.small_terms.specs.Plan as plan
use Rattle.small_terms.specs.Result.{first_unknown}
use Rattle.small_terms.proofs.Found.{among, not_among}

pub emits_whole : (count place : ℕ) (old new : List Entry) (at : ℕ) → count ≡ 1 → Adds old (record { node = code.Iden; count = count }) new at → (p : Plan) → Picks count place p → Emits old p new at
emits_whole count place old new at one a p (plan.whole one' here) = whole (rw one at a)
emits_whole count place old new at one a p (plan.first some less q) = absurd (omega arith)
emits_whole count place old new at one a p (plan.rest some past q) = absurd (omega arith)

pub emits_first : (count place child at : ℕ) (old one new : List Entry) → ¬ (count ≡ 1) → place < count / 2 → ((p : Plan) → Picks (count / 2) place p → Emits old p one child) → Adds one (record { node = code.Take child; count = count }) new at → (p : Plan) → Picks count place p → Emits old p new at
emits_first count place child at old one new more less emits a p (plan.whole one' here) = absurd (more one')
emits_first count place child at old one new more less emits a p (plan.first some less' q) = first (emits _ q) a
emits_first count place child at old one new more less emits a p (plan.rest some past q) = absurd (omega arith)

pub emits_rest : (count place child at : ℕ) (old one new : List Entry) → ¬ (count ≡ 1) → count / 2 ≤ place → ((p : Plan) → Picks (count - count / 2) (place - count / 2) p → Emits old p one child) → Adds one (record { node = code.Drop child; count = count }) new at → (p : Plan) → Picks count place p → Emits old p new at
emits_rest count place child at old one new more past emits a p (plan.whole one' here) = absurd (more one')
emits_rest count place child at old one new more past emits a p (plan.first some less q) = absurd (omega arith)
emits_rest count place child at old one new more past emits a p (plan.rest some past' q) = rest (emits _ q) a

-- a name has one first place
first_same : (names : List (List ℕ)) (name : List ℕ) (i j : ℕ) → IsFirst names name i → IsFirst names name j → i ≡ j
first_same names name i j f g = split (nat_lt i j) (nat_lt j i) refl refl
  where
    split : (b c : Bool) → nat_lt i j ≡ b → nat_lt j i ≡ c → i ≡ j
    split true c e h = absurd (g.before i (grind (arith, nat_tests)) f.there)
    split false true e h = absurd (f.before j (grind (arith, nat_tests)) g.there)
    split false false e h = grind (arith, nat_tests)

pub emits_named : (names : List (List ℕ)) (name : List ℕ) (start place : ℕ) (old new : List Entry) (at : ℕ) → IsFirst names name place → ((p : Plan) → Picks (length names) place p → Emits old p new at) → (p : Plan) → Makes names (Named name start) p → Emits old p new at
emits_named names name start place old new at f emits p (named {place = other} g picks) = emits p (rw (first_same names name place other f g) picks)

pub emits_paired : (names : List (List ℕ)) (a b : SmallBody) (old one two new : List Entry) (left right at : ℕ) → ((p : Plan) → Makes names a p → Emits old p one left) → ((p : Plan) → Makes names b p → Emits one p two right) → Adds two (record { node = code.Pair left right; count = length names }) new at → (p : Plan) → Makes names (Paired a b) p → Emits old p new at
emits_paired names a b old one two new left right at l r adds p (paired m n) = both (l _ m) (r _ n) adds

pub unknown_named : (names : List (List ℕ)) (name : List ℕ) (start : ℕ) → ((i : ℕ) → ¬ (slice_get names i ≡ Some name)) → first_unknown names (Named name start) ≡ Some (start, length name)
unknown_named names name start none = rw (not_among names name none) refl

pub known_named : (names : List (List ℕ)) (name : List ℕ) (start place : ℕ) → slice_get names place ≡ Some name → first_unknown names (Named name start) ≡ None
known_named names name start place there = rw (among names place name there) refl
