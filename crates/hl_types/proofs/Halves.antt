-- Forms by parts, in a table that grows meanwhile.
use Rattle.std.proofs.Common.{◌≡◌, ℕ, zero, suc, ◌-◌, ◌*◌, ◌/◌, ◌%◌, ◌^◌, ◌<◌, ◌≤◌, List, [], ◌∷◌, length, map, take, drop, refl, sym, ap, ◌∙◌, arith}
use Rattle.std.proofs.lemmas.List.{length-map}
use Rattle.std.proofs.Math.Pow.{pow-lt}
use Rattle.simplicity.specs.Types.{Kind, One, Sum, Product}
use Rattle.simplicity.specs.Tuples.{tuple_kind, copies_kind}
use Rattle.simplicity.proofs.Tuples.{copies_pair, tuple_kind_pair}
use Rattle.simplicityhl.specs.Kinds.{list_kind}
use Rattle.type_table.specs.Kinds.{Means, kind_at, IsGrown}
use Rattle.type_table.proofs.Growth.{grown_length, kind_at-grown}
use Rattle.hl_types.specs.Ids.{AreBelow}

-- an even number of copies, from the form of half of them
pub copies_even : (one new : List Kind) (k : Kind) (n first id : ℕ) → 1 < n → n % 2 ≡ 0 → Means one first (copies_kind (n / 2) k) →
    Means new id (Product (kind_at one first) (kind_at one first)) → Means new id (copies_kind n k)
copies_even one new k n first id some even f p =
    let half : n - n / 2 ≡ n / 2 = omega arith in
    record { within = p.within; is = p.is ∙ ap (λ j. Product j j) f.is ∙ sym (copies_pair n k some ∙ ap (λ m. Product (copies_kind (n / 2) k) (copies_kind m k)) half) }

-- copies from the forms of both halves
pub copies_both : (old one two new : List Kind) (n item first rest id : ℕ) → 1 < n → item < length old → IsGrown old one → IsGrown one two →
    Means one first (copies_kind (n / 2) (kind_at old item)) → Means two rest (copies_kind (n - n / 2) (kind_at one item)) →
    Means new id (Product (kind_at two first) (kind_at two rest)) → Means new id (copies_kind n (kind_at old item))
copies_both old one two new n item first rest id some there g h f r p =
    let same = kind_at-grown old one item g there in
    let left : kind_at two first ≡ copies_kind (n / 2) (kind_at old item) = kind_at-grown one two first h f.within ∙ f.is in
    let right : kind_at two rest ≡ copies_kind (n - n / 2) (kind_at old item) = r.is ∙ ap (copies_kind (n - n / 2)) same in
    record { within = p.within; is = p.is ∙ ap (λ j. Product j (kind_at two rest)) left ∙ ap (Product (copies_kind (n / 2) (kind_at old item))) right ∙ sym (copies_pair n (kind_at old item) some) }

map-take : {A B : Type 0} (f : A → B) (n : ℕ) (xs : List A) → map f (take n xs) ≡ take n (map f xs)
map-take f zero [] = refl
map-take f zero (x ∷ xs) = refl
map-take f (suc n) [] = refl
map-take f (suc n) (x ∷ xs) = ap (λ ys. f x ∷ ys) (map-take f n xs)

map-drop : {A B : Type 0} (f : A → B) (n : ℕ) (xs : List A) → map f (drop n xs) ≡ drop n (map f xs)
map-drop f zero [] = refl
map-drop f zero (x ∷ xs) = refl
map-drop f (suc n) [] = refl
map-drop f (suc n) (x ∷ xs) = map-drop f n xs

pub below_take : (bound n : ℕ) (ids : List ℕ) → AreBelow bound ids → AreBelow bound (take n ids)
below_take bound zero [] h = tt
below_take bound zero (x ∷ ids) h = tt
below_take bound (suc n) [] h = tt
below_take bound (suc n) (x ∷ ids) h = (h.0, below_take bound n ids h.1)

pub below_drop : (bound n : ℕ) (ids : List ℕ) → AreBelow bound ids → AreBelow bound (drop n ids)
below_drop bound zero [] h = tt
below_drop bound zero (x ∷ ids) h = h
below_drop bound (suc n) [] h = tt
below_drop bound (suc n) (x ∷ ids) h = below_drop bound n ids h.1

pub below_more : (m n : ℕ) (ids : List ℕ) → m ≤ n → AreBelow m ids → AreBelow n ids
below_more m n [] h b = tt
below_more m n (x ∷ ids) h b = (omega arith, below_more m n ids h b.1)

-- what ids mean stays
pub kinds_at-grown : (old new : List Kind) (ids : List ℕ) → IsGrown old new → AreBelow (length old) ids → map (kind_at new) ids ≡ map (kind_at old) ids
kinds_at-grown old new [] g b = refl
kinds_at-grown old new (x ∷ ids) g b = let e = kind_at-grown old new x g b.0 in let f = kinds_at-grown old new ids g b.1 in cc

-- a tuple from the forms of both halves
pub tuple_both : (old one two new : List Kind) (parts front back : List ℕ) (first rest id : ℕ) → 1 < length parts → AreBelow (length old) parts →
    front ≡ take (length parts / 2) parts → back ≡ drop (length parts / 2) parts → IsGrown old one → IsGrown one two →
    Means one first (tuple_kind (map (kind_at old) front)) → Means two rest (tuple_kind (map (kind_at one) back)) →
    Means new id (Product (kind_at two first) (kind_at two rest)) → Means new id (tuple_kind (map (kind_at old) parts))
tuple_both old one two new parts front back first rest id some there is_front is_back g h f r p =
    let long : length (map (kind_at old) parts) ≡ length parts = simp length-map in
    let left : kind_at two first ≡ tuple_kind (take (length parts / 2) (map (kind_at old) parts)) =
    kind_at-grown one two first h f.within ∙ f.is ∙ ap (λ ids. tuple_kind (map (kind_at old) ids)) is_front ∙ ap tuple_kind (map-take (kind_at old) (length parts / 2) parts) in
    let right : kind_at two rest ≡ tuple_kind (drop (length parts / 2) (map (kind_at old) parts)) =
    r.is ∙ ap (λ ids. tuple_kind (map (kind_at one) ids)) is_back ∙ ap tuple_kind (kinds_at-grown old one (drop (length parts / 2) parts) g (below_drop (length old) (length parts / 2) parts there))
    ∙ ap tuple_kind (map-drop (kind_at old) (length parts / 2) parts) in
    let pair : tuple_kind (map (kind_at old) parts) ≡ Product (tuple_kind (take (length parts / 2) (map (kind_at old) parts))) (tuple_kind (drop (length parts / 2) (map (kind_at old) parts))) =
    tuple_kind_pair (map (kind_at old) parts) (omega (arith, long)) ∙ ap (λ n. Product (tuple_kind (take (n / 2) (map (kind_at old) parts))) (tuple_kind (drop (n / 2) (map (kind_at old) parts)))) long in
    record { within = p.within; is = p.is ∙ ap (λ j. Product j (kind_at two rest)) left ∙ ap (Product (tuple_kind (take (length parts / 2) (map (kind_at old) parts)))) right ∙ sym pair }

-- a list from the form of its block and of the shorter list
pub list_next : (old one two three new : List Kind) (level item rest block choice id : ℕ) → 0 < level → item < length old →
    IsGrown old one → IsGrown one two → IsGrown two three →
    Means one rest (list_kind (level - 1) (kind_at old item)) → Means two block (copies_kind (2 ^ level) (kind_at one item)) →
    Means three choice (Sum One (kind_at two block)) → Means new id (Product (kind_at three choice) (kind_at three rest)) → Means new id (list_kind level (kind_at old item))
list_next old one two three new zero item rest block choice id some there g h k r b c p = absurd (omega arith)
list_next old one two three new (suc level) item rest block choice id some there g h k r b c p =
    let e : suc level - 1 ≡ level = omega arith in
    let within : rest < length two = omega (arith, grown_length one two h, r.within) in
    let same = kind_at-grown old one item g there in
    let first : kind_at three choice ≡ Sum One (copies_kind (2 ^ suc level) (kind_at old item)) = c.is ∙ ap (Sum One) (b.is ∙ ap (copies_kind (2 ^ suc level)) same) in
    let second : kind_at three rest ≡ list_kind level (kind_at old item) =
    kind_at-grown two three rest k within ∙ kind_at-grown one two rest h r.within ∙ r.is ∙ ap (λ n. list_kind n (kind_at old item)) e in
    record { within = p.within; is = p.is ∙ ap (λ j. Product j (kind_at three rest)) first ∙ ap (Product (Sum One (copies_kind (2 ^ suc level) (kind_at old item)))) second }

-- a power that fits is what a shift gives
pub shifted : (level : ℕ) → level < 16 → (1 * 2 ^ level) % 4294967296 ≡ 2 ^ level
shifted level few = let fits : 2 ^ level < 2 ^ 16 = pow-lt few in omega arith
