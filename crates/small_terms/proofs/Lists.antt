-- Places in lists, and the numbers below a number.
use Rattle.std.proofs.Common.{◌≡◌, ℕ, zero, suc, ◌+◌, ◌<◌, ◌≤◌, Bool, true, false, ◌||◌, List, [], ◌∷◌, ◌++◌, length, slice_get, Some, refl, ap, ◌∙◌, arith, nat_eq, ◌⊎◌, inl, inr}
use Rattle.std.proofs.lemmas.Bool.Decides.{nat_tests}
use Rattle.std.specs.List.{range_with_len}
use Rattle.simplicity.specs.Order.{has}

-- an element that is there is so in a longer list
pub get_more : {X : Type 0} (xs ys : List X) (i : ℕ) (x : X) → slice_get xs i ≡ Some x → slice_get (xs ++ ys) i ≡ Some x
get_more [] ys i x there = cc
get_more (z ∷ xs) ys zero x there = there
get_more (z ∷ xs) ys (suc i) x there = get_more xs ys i x there

-- the element after a list
pub get_next : {X : Type 0} (xs ys : List X) (x : X) → slice_get (xs ++ x ∷ ys) (length xs) ≡ Some x
get_next [] ys x = refl
get_next (z ∷ xs) ys x = get_next xs ys x

-- an element of a list with one more is an old one, or the last
pub get_one_more : {X : Type 0} (xs : List X) (y : X) (i : ℕ) (x : X) → slice_get (xs ++ y ∷ []) i ≡ Some x → (slice_get xs i ≡ Some x) ⊎ ((i ≡ length xs) × (x ≡ y))
get_one_more [] y zero x there = inr (refl, (cc))
get_one_more [] y (suc i) x there = cc
get_one_more (z ∷ xs) y zero x there = inl there
get_one_more (z ∷ xs) y (suc i) x there = one_more (get_one_more xs y i x there)
  where
    one_more : (slice_get xs i ≡ Some x) ⊎ ((i ≡ length xs) × (x ≡ y)) → (slice_get xs i ≡ Some x) ⊎ ((suc i ≡ suc (length xs)) × (x ≡ y))
    one_more (inl h) = inl h
    one_more (inr h) = inr (ap suc h.0, h.1)

pub get_within : {X : Type 0} (xs : List X) (i : ℕ) (x : X) → slice_get xs i ≡ Some x → i < length xs
get_within [] i x there = cc
get_within (z ∷ xs) zero x there = omega arith
get_within (z ∷ xs) (suc i) x there = omega (arith, get_within xs i x there)

-- what stands before an element, and after it
pub get_parts : {X : Type 0} (xs : List X) (i : ℕ) (x : X) → slice_get xs i ≡ Some x → (front : List X) × (back : List X) × (xs ≡ front ++ x ∷ back) × (length front ≡ i)
get_parts [] i x there = cc
get_parts (z ∷ xs) zero x there = ([], xs, cc, refl)
get_parts (z ∷ xs) (suc i) x there =
    let p : (front : List _) × (back : List _) × (xs ≡ front ++ x ∷ back) × (length front ≡ i) = get_parts xs i x there in
    (z ∷ p.0, p.1, ap (λ t. z ∷ t) p.2, ap suc p.3)

-- the numbers below one
abbrev pub upto : ℕ → List ℕ
upto n = range_with_len 0 n

range_next : (a n : ℕ) → range_with_len a (suc n) ≡ range_with_len a n ++ (a + n) ∷ []
range_next a zero = let e : a + 0 ≡ a = omega arith in rw e refl
range_next a (suc n) =
    let e : a + 1 + n ≡ a + suc n = omega arith in
    ap (λ t. a ∷ t) (range_next (a + 1) n ∙ rw e refl)

pub upto_next : (n : ℕ) → upto (suc n) ≡ upto n ++ n ∷ []
upto_next n = let e : 0 + n ≡ n = omega arith in rw e at (range_next 0 n)

found_from : (i a n : ℕ) (b : Bool) → nat_eq i a ≡ b → (¬ (i ≡ a) → has i (range_with_len (a + 1) n) ≡ true) → (b || has i (range_with_len (a + 1) n)) ≡ true
found_from i a n true e later = refl
found_from i a n false e later = later (grind (arith, nat_tests))

has_from : (i a n : ℕ) → a ≤ i → i < a + n → has i (range_with_len a n) ≡ true
has_from i a zero least less = absurd (omega arith)
has_from i a (suc n) least less = found_from i a n (nat_eq i a) refl (λ other. has_from i (a + 1) n (omega arith) (omega arith))

has_past : (i a n : ℕ) → a + n ≤ i → has i (range_with_len a n) ≡ false
has_past i a zero past = refl
has_past i a (suc n) past =
    let e : nat_eq i a ≡ false = grind (arith, nat_tests) in
    rw e (has_past i (a + 1) n (omega arith))

pub has_upto : (i n : ℕ) → i < n → has i (upto n) ≡ true
has_upto i n less = has_from i 0 n (omega arith) (omega arith)

pub has_upto_past : (i n : ℕ) → n ≤ i → has i (upto n) ≡ false
has_upto_past i n past = has_past i 0 n (omega arith)
