-- How tuples divide, and what is joined by halves seen through a function and from the right.
use Rattle.std.proofs.Common.{◌≡◌, ℕ, zero, suc, ◌-◌, ◌/◌, ◌<◌, ◌≤◌, List, [], ◌∷◌, ◌++◌, length, take, drop, replicate, map, refl, sym, ap, ◌∙◌, subst, arith, length-take, length-drop}
use Rattle.std.proofs.lemmas.List.{length-replicate, take-replicate, drop-replicate, take-append-drop, length-map}
use Rattle.simplicity.specs.Types.{Kind, One, Product, Value, UnitValue, Pair, IsOf, AreOf}
use Rattle.simplicity.specs.Tuples.{halves, tuple_value, tuple_kind, copies_kind}
use Rattle.simplicity.specs.TermLaws.{TuplesHalve}

-- turns past the length change nothing
halves_turns : {A : Type 0} (e : A) (f : A → A → A) (s t : ℕ) (xs : List A) → length xs ≤ s → length xs ≤ t → halves s e f xs ≡ halves t e f xs
halves_turns e f s t [] few few' = refl
halves_turns e f s t (x ∷ []) few few' = refl
halves_turns e f zero t (x ∷ y ∷ more) few few' = absurd (omega arith)
halves_turns e f (suc s) zero (x ∷ y ∷ more) few few' = absurd (omega arith)
halves_turns {A} e f (suc s) (suc t) (x ∷ y ∷ more) few few' =
    let n : ℕ = length (x ∷ y ∷ more) in
    let front : length (take (length (x ∷ y ∷ more) / 2) (x ∷ y ∷ more)) < length (x ∷ y ∷ more) = omega (arith, length-take (length (x ∷ y ∷ more) / 2) (x ∷ y ∷ more)) in
    let back : length (drop (length (x ∷ y ∷ more) / 2) (x ∷ y ∷ more)) < length (x ∷ y ∷ more) = omega (arith, length-drop (length (x ∷ y ∷ more) / 2) (x ∷ y ∷ more)) in
    cc (halves_turns e f s t (take (length (x ∷ y ∷ more) / 2) (x ∷ y ∷ more)) (omega arith) (omega arith), halves_turns e f s t (drop (length (x ∷ y ∷ more) / 2) (x ∷ y ∷ more)) (omega arith) (omega arith))

-- more than one are joined of two halves
pub halves_pair : {A : Type 0} (e : A) (f : A → A → A) (xs : List A) → 1 < length xs → halves (length xs) e f xs ≡ f (halves (length (take (length xs / 2) xs)) e f (take (length xs / 2) xs)) (halves (length (drop (length xs / 2) xs)) e f (drop (length xs / 2) xs))
halves_pair e f [] some = absurd (omega arith)
halves_pair e f (x ∷ []) some = absurd (omega arith)
halves_pair e f (x ∷ y ∷ more) some =
    let front : length (take (length (x ∷ y ∷ more) / 2) (x ∷ y ∷ more)) < length (x ∷ y ∷ more) = omega (arith, length-take (length (x ∷ y ∷ more) / 2) (x ∷ y ∷ more)) in
    let back : length (drop (length (x ∷ y ∷ more) / 2) (x ∷ y ∷ more)) < length (x ∷ y ∷ more) = omega (arith, length-drop (length (x ∷ y ∷ more) / 2) (x ∷ y ∷ more)) in
    cc (
      halves_turns e f (suc (length more)) (length (take (length (x ∷ y ∷ more) / 2) (x ∷ y ∷ more))) (take (length (x ∷ y ∷ more) / 2) (x ∷ y ∷ more)) (omega arith) (omega arith),
      halves_turns e f (suc (length more)) (length (drop (length (x ∷ y ∷ more) / 2) (x ∷ y ∷ more))) (drop (length (x ∷ y ∷ more) / 2) (x ∷ y ∷ more)) (omega arith) (omega arith),
    )

-- more than one value are a pair of two tuples
pub tuple_pair : (vs : List Value) → 1 < length vs → tuple_value vs ≡ Pair (tuple_value (take (length vs / 2) vs)) (tuple_value (drop (length vs / 2) vs))
tuple_pair vs some = halves_pair UnitValue Pair vs some

-- more than one type are the product of two tuples
pub tuple_kind_pair : (ks : List Kind) → 1 < length ks → tuple_kind ks ≡ Product (tuple_kind (take (length ks / 2) ks)) (tuple_kind (drop (length ks / 2) ks))
tuple_kind_pair ks some = halves_pair One Product ks some

-- more than one copy are those of the first half beside the rest
pub copies_pair : (n : ℕ) (k : Kind) → 1 < n → copies_kind n k ≡ Product (copies_kind (n / 2) k) (copies_kind (n - n / 2) k)
copies_pair n k some =
    let long : length (replicate n k) ≡ n = length-replicate n k in
    let front : take (length (replicate n k) / 2) (replicate n k) ≡ replicate (n / 2) k = rw long (take-replicate (n / 2) n k (omega arith)) in
    let back : drop (length (replicate n k) / 2) (replicate n k) ≡ replicate (n - n / 2) k = rw long (drop-replicate (n / 2) n k) in
    halves_pair One Product (replicate n k) (omega (arith, long)) ∙ cc (ap tuple_kind front, ap tuple_kind back)

-- a map and the first items, and the rest
pub take_map : {A B : Type 0} (g : A → B) (n : ℕ) (xs : List A) → map g (take n xs) ≡ take n (map g xs)
take_map g zero xs = refl
take_map g (suc n) [] = refl
take_map g (suc n) (x ∷ xs) = ap (λ l. g x ∷ l) (take_map g n xs)

pub drop_map : {A B : Type 0} (g : A → B) (n : ℕ) (xs : List A) → map g (drop n xs) ≡ drop n (map g xs)
drop_map g zero xs = refl
drop_map g (suc n) [] = refl
drop_map g (suc n) (x ∷ xs) = drop_map g n xs

-- through a function that keeps to what joins
within_map : {A B : Type 0} (g : A → B) (e : A) (f : A → A → A) (e' : B) (f' : B → B → B) → g e ≡ e' → ((a b : A) → g (f a b) ≡ f' (g a) (g b)) →
    (turns : ℕ) (xs : List A) → g (halves turns e f xs) ≡ halves turns e' f' (map g xs)
within_map g e f e' f' is h turns [] = is
within_map g e f e' f' is h turns (x ∷ []) = refl
within_map g e f e' f' is h zero (x ∷ y ∷ zs) = is
within_map g e f e' f' is h (suc turns) (x ∷ y ∷ zs) =
    let n = length (x ∷ y ∷ zs) / 2 in
    h (halves turns e f (take n (x ∷ y ∷ zs))) (halves turns e f (drop n (x ∷ y ∷ zs)))
    ∙ ap (λ a. f' a (g (halves turns e f (drop n (x ∷ y ∷ zs))))) (within_map g e f e' f' is h turns (take n (x ∷ y ∷ zs)) ∙ ap (halves turns e' f') (take_map g n (x ∷ y ∷ zs)))
    ∙ ap (λ a. f' (halves turns e' f' (take n (map g (x ∷ y ∷ zs)))) a) (within_map g e f e' f' is h turns (drop n (x ∷ y ∷ zs)) ∙ ap (halves turns e' f') (drop_map g n (x ∷ y ∷ zs)))
    ∙ ap (λ m. f' (halves turns e' f' (take (m / 2) (map g (x ∷ y ∷ zs)))) (halves turns e' f' (drop (m / 2) (map g (x ∷ y ∷ zs))))) (sym (length-map (x ∷ y ∷ zs) g))

pub halves_map : {A B : Type 0} (g : A → B) (e : A) (f : A → A → A) (e' : B) (f' : B → B → B) → g e ≡ e' → ((a b : A) → g (f a b) ≡ f' (g a) (g b)) →
    (xs : List A) → g (halves (length xs) e f xs) ≡ halves (length (map g xs)) e' f' (map g xs)
halves_map g e f e' f' is h xs = within_map g e f e' f' is h (length xs) xs ∙ ap (λ t. halves t e' f' (map g xs)) (sym (length-map xs g))

-- one item after the other, from the right
abbrev pub from_right : {A : Type 0} → A → (A → A → A) → List A → A
from_right e f [] = e
from_right e f (x ∷ xs) = f x (from_right e f xs)

right_append : {A : Type 0} (e : A) (f : A → A → A) → ((a b c : A) → f (f a b) c ≡ f a (f b c)) → ((a : A) → f e a ≡ a) → (xs ys : List A) →
    from_right e f (xs ++ ys) ≡ f (from_right e f xs) (from_right e f ys)
right_append e f assoc left [] ys = sym (left (from_right e f ys))
right_append e f assoc left (x ∷ xs) ys = ap (f x) (right_append e f assoc left xs ys) ∙ sym (assoc x (from_right e f xs) (from_right e f ys))

within_right : {A : Type 0} (e : A) (f : A → A → A) → ((a b c : A) → f (f a b) c ≡ f a (f b c)) → ((a : A) → f e a ≡ a) → ((a : A) → f a e ≡ a) →
    (turns : ℕ) (xs : List A) → length xs ≤ turns → halves turns e f xs ≡ from_right e f xs
within_right e f assoc left right turns [] h = refl
within_right e f assoc left right turns (x ∷ []) h = sym (right x)
within_right e f assoc left right zero (x ∷ y ∷ zs) h = absurd (omega arith)
within_right {A} e f assoc left right (suc turns) (x ∷ y ∷ zs) h =
    let l : List A = x ∷ y ∷ zs in
    let n : ℕ = length l / 2 in
    ap (λ r. f r (halves turns e f (drop n l))) (within_right e f assoc left right turns (take n l) (short n l (omega arith)))
    ∙ ap (λ r. f (from_right e f (take n l)) r) (within_right e f assoc left right turns (drop n l) (rest n l (omega arith)))
    ∙ sym (right_append e f assoc left (take n l) (drop n l))
    ∙ ap (from_right e f) (take-append-drop n l)
  where
    short : (n : ℕ) (l : List A) → n ≤ turns → length (take n l) ≤ turns
    short n l h = omega (arith, h, length-take n l)

    rest : (n : ℕ) (l : List A) → length l - n ≤ turns → length (drop n l) ≤ turns
    rest n l h = omega (arith, h, length-drop n l)

-- what joins in any order, and with nothing before or after, joins by halves as from the right
pub halves_right : {A : Type 0} (e : A) (f : A → A → A) → ((a b c : A) → f (f a b) c ≡ f a (f b c)) → ((a : A) → f e a ≡ a) → ((a : A) → f a e ≡ a) →
    (xs : List A) → halves (length xs) e f xs ≡ from_right e f xs
halves_right e f assoc left right xs = within_right e f assoc left right (length xs) xs (omega arith)

-- copies of one item
pub halves_copies : {A : Type 0} (e : A) (f : A → A → A) (n : ℕ) (x : A) → 1 < n →
    halves n e f (replicate n x) ≡ f (halves (n / 2) e f (replicate (n / 2) x)) (halves (n - n / 2) e f (replicate (n - n / 2) x))
halves_copies {A} e f n x some =
    let join : List A → A = λ l. halves (length l) e f l in
    let long : length (replicate n x) ≡ n = length-replicate n x in
    let front : take (length (replicate n x) / 2) (replicate n x) ≡ replicate (n / 2) x = rw long (take-replicate (n / 2) n x (omega arith)) in
    let back : drop (length (replicate n x) / 2) (replicate n x) ≡ replicate (n - n / 2) x = rw long (drop-replicate (n / 2) n x) in
    ap (λ t. halves t e f (replicate n x)) (sym long)
    ∙ halves_pair e f (replicate n x) (omega (arith, long))
    ∙ ap (λ l. f (halves (length l) e f l) (halves (length (drop (length (replicate n x) / 2) (replicate n x))) e f (drop (length (replicate n x) / 2) (replicate n x)))) front
    ∙ ap (λ l. f (halves (length (replicate (n / 2) x)) e f (replicate (n / 2) x)) (halves (length l) e f l)) back
    ∙ ap (λ t. f (halves t e f (replicate (n / 2) x)) (halves (length (replicate (n - n / 2) x)) e f (replicate (n - n / 2) x))) (length-replicate (n / 2) x)
    ∙ ap (λ t. f (halves (n / 2) e f (replicate (n / 2) x)) (halves t e f (replicate (n - n / 2) x))) (length-replicate (n - n / 2) x)

-- values at their types, in part
same_length : (vs : List Value) (ks : List Kind) → AreOf vs ks → length vs ≡ length ks
same_length [] [] h = refl
same_length (v ∷ vs) (k ∷ ks) h = ap suc (same_length vs ks h.1)
same_length [] (k ∷ ks) h = absurd h
same_length (v ∷ vs) [] h = absurd h

of_take : (n : ℕ) (vs : List Value) (ks : List Kind) → AreOf vs ks → AreOf (take n vs) (take n ks)
of_take zero vs ks h = tt
of_take (suc n) [] [] h = tt
of_take (suc n) (v ∷ vs) (k ∷ ks) h = (h.0, of_take n vs ks h.1)
of_take (suc n) [] (k ∷ ks) h = absurd h
of_take (suc n) (v ∷ vs) [] h = absurd h

of_drop : (n : ℕ) (vs : List Value) (ks : List Kind) → AreOf vs ks → AreOf (drop n vs) (drop n ks)
of_drop zero vs ks h = h
of_drop (suc n) [] [] h = tt
of_drop (suc n) (v ∷ vs) (k ∷ ks) h = of_drop n vs ks h.1
of_drop (suc n) [] (k ∷ ks) h = absurd h
of_drop (suc n) (v ∷ vs) [] h = absurd h

halves_fit : (turns : ℕ) (vs : List Value) (ks : List Kind) → AreOf vs ks → length vs ≤ turns → IsOf (halves turns UnitValue Pair vs) (halves turns One Product ks)
halves_fit turns [] [] h few = tt
halves_fit turns (v ∷ []) (k ∷ []) h few = h.0
halves_fit zero (u ∷ v ∷ vs) (j ∷ k ∷ ks) h few = absurd (omega arith)
halves_fit (suc turns) (u ∷ v ∷ vs) (j ∷ k ∷ ks) h few =
    let us : List Value = u ∷ v ∷ vs in
    let js : List Kind = j ∷ k ∷ ks in
    let n : ℕ = length us / 2 in
    let long : length us ≡ length js = same_length us js h in
    let front = halves_fit turns (take n us) (take n js) (of_take n us js h) (omega (arith, few, length-take n us)) in
    let back = halves_fit turns (drop n us) (drop n js) (of_drop n us js h) (omega (arith, few, length-drop n us)) in
    subst (λ m. IsOf (halves (suc turns) UnitValue Pair us) (Product (halves turns One Product (take (m / 2) js)) (halves turns One Product (drop (m / 2) js)))) long (front, back)
halves_fit turns [] (k ∷ ks) h few = absurd h
halves_fit turns (v ∷ vs) [] h few = absurd h
halves_fit turns (v ∷ []) (j ∷ k ∷ ks) h few = absurd h.1
halves_fit turns (u ∷ v ∷ vs) (k ∷ []) h few = absurd h.1

-- a tuple of values is of the tuple of their types
pub tuple_fits : (vs : List Value) (ks : List Kind) → AreOf vs ks → IsOf (tuple_value vs) (tuple_kind ks)
tuple_fits vs ks h =
    let long : length vs ≡ length ks = same_length vs ks h in
    subst (λ n. IsOf (tuple_value vs) (halves n One Product ks)) long (halves_fit (length vs) vs ks h (omega arith))

pub tuples_halve : TuplesHalve
tuples_halve = record { values = tuple_pair; types = tuple_kind_pair; copies = copies_pair; fit = tuple_fits }
