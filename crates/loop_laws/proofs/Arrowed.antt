-- The terms of loops are typed.
use Rattle.std.proofs.Common.{◌≡◌, ℕ, zero, suc, ◌-◌, ◌/◌, ◌^◌, ◌≤◌, List, length, take, drop, replicate, refl, sym, ap, ◌∙◌, subst, arith}
use Rattle.std.proofs.lemmas.List.{length-replicate, take-replicate, drop-replicate}
use Rattle.simplicity.specs.Canon.{Declared}
use Rattle.simplicity.proofs.Tuples.{halves_pair}
use Rattle.simplicity.specs.Tuples.{halves, copies_kind}
use Rattle.simplicity.specs.Types.{Kind, One, Sum, Product, word_kind}
use Rattle.simplicityhl.specs.Kinds.{list_kind}
use Rattle.simplicity.specs.Arrows as row
use Rattle.simplicity.specs.Arrows.{IsTypedFrom, target}
use Rattle.simplicity.specs.Makes.{first_of, second_of, left_of, iden, unit, comp, pair, on_first, on_second, to_left, by_tag}
use Rattle.loop_laws.specs.Trees.{in_turn, in_turn_of, made_before, made_kind, array_fold, list_fold, where_there, where_there_of, turn_of, zero_bit, one_bit, two_turns_of, regrouped_of, regrouped, while_at}
use Rattle.loop_laws.specs.Laws.{FoldsTyped, WhilesTyped, ArraysHalve}
use Rattle.simplicity.proofs.Arrows.{typed_comp, typed_pair, typed_first, typed_second, typed_left, typed_right, typed_tag}

before_right : (a : Kind) → IsTypedFrom (made_before a) (Product One a) a
before_right a = record { from = refl; to = refl; typed = typed_second One (iden a) (row.Iden a) }

turn_right : (a x y : Kind) (s t : Declared) → IsTypedFrom s (Product x a) a → IsTypedFrom t (Product y a) a → IsTypedFrom (in_turn_of a x y s t) (Product (Product x y) a) a
turn_right a x y s t f g =
    let second = on_first a (on_second x (iden y)) in
    let first = pair (on_first a (on_first y (iden x))) (on_second (Product x y) (iden a)) in
    let made = comp first s in
    record {
      from = refl;
      to = g.to;
      typed = typed_comp (pair second made) t
          (typed_pair second made (typed_first a (on_second x (iden y)) (typed_second x (iden y) (row.Iden y)))
          (typed_comp first s (typed_pair (on_first a (on_first y (iden x))) (on_second (Product x y) (iden a)) (typed_first a (on_first y (iden x)) (typed_first y (iden x) (row.Iden x))) (typed_second (Product x y) (iden a) (row.Iden a)) refl) f.typed (sym f.from)) refl)
          g.typed (ap (Product y) f.to ∙ sym g.from);
    }

in_turn_right : (a x y : Kind) (s t : Declared) → IsTypedFrom s (Product x a) a → IsTypedFrom t (Product y a) a → IsTypedFrom (in_turn s t) (Product (Product x y) a) a
in_turn_right a x y s t f g = rw (f.from, g.from) (turn_right a x y s t f g)

joined : (a : Kind) (f : Declared) (item : Kind) (turns m n : ℕ) (fs gs : List Declared) (ks ls : List Kind) → fs ≡ replicate m f → gs ≡ replicate n f → ks ≡ replicate m item → ls ≡ replicate n item →
    IsTypedFrom (halves turns (made_before a) in_turn (replicate m f)) (Product (halves turns One Product (replicate m item)) a) a →
    IsTypedFrom (halves turns (made_before a) in_turn (replicate n f)) (Product (halves turns One Product (replicate n item)) a) a →
    IsTypedFrom (in_turn (halves turns (made_before a) in_turn fs) (halves turns (made_before a) in_turn gs)) (Product (Product (halves turns One Product ks) (halves turns One Product ls)) a) a
joined a f item turns m n fs gs ks ls d e k l h g =
    rw (d, e, k, l) (in_turn_right a (halves turns One Product (replicate m item)) (halves turns One Product (replicate n item)) (halves turns (made_before a) in_turn (replicate m f)) (halves turns (made_before a) in_turn (replicate n f)) h g)

front_of : {A : Type 0} (x : A) (n : ℕ) → take (length (replicate n x) / 2) (replicate n x) ≡ replicate (n / 2) x
front_of x n = rw (length-replicate n x) (take-replicate (n / 2) n x (omega arith))

back_of : {A : Type 0} (x : A) (n : ℕ) → drop (length (replicate n x) / 2) (replicate n x) ≡ replicate (n - n / 2) x
back_of x n = rw (length-replicate n x) (drop-replicate (n / 2) n x)

halves_right : (f : Declared) (item a : Kind) → IsTypedFrom f (Product item a) a → (turns n : ℕ) → n ≤ turns →
    IsTypedFrom (halves turns (made_before a) in_turn (replicate n f)) (Product (halves turns One Product (replicate n item)) a) a
halves_right f item a h turns zero few = before_right a
halves_right f item a h turns (suc zero) few = h
halves_right f item a h zero (suc (suc n)) few = absurd (omega arith)
halves_right f item a h (suc turns) (suc (suc n)) few =
    let m = suc (suc n) in
    joined a f item turns (m / 2) (m - m / 2) (take (length (replicate m f) / 2) (replicate m f)) (drop (length (replicate m f) / 2) (replicate m f)) (take (length (replicate m item) / 2) (replicate m item)) (drop (length (replicate m item) / 2) (replicate m item))
    (front_of f m) (back_of f m) (front_of item m) (back_of item m)
    (halves_right f item a h turns (m / 2) (omega (arith, few))) (halves_right f item a h turns (m - m / 2) (omega (arith, few)))

array_right : (f : Declared) (item a : Kind) → IsTypedFrom f (Product item a) a → (count : ℕ) → IsTypedFrom (array_fold f count) (Product (copies_kind count item) a) a
array_right f item a h count =
    let made : made_kind f ≡ a = ap second_of h.from in
    let long : length (replicate count item) ≡ count = length-replicate count item in
    subst (λ k. IsTypedFrom (halves count (made_before k) in_turn (replicate count f)) (Product (copies_kind count item) a) a) (sym made)
    (subst (λ t. IsTypedFrom (halves count (made_before a) in_turn (replicate count f)) (Product (halves t One Product (replicate count item)) a) a) (sym long) (halves_right f item a h count count (omega arith)))

there_right : (a x : Kind) (t : Declared) → IsTypedFrom t (Product x a) a → IsTypedFrom (where_there t) (Product (Sum One x) a) a
there_right a x t h =
    let right : IsTypedFrom (where_there_of a x t) (Product (Sum One x) a) a = record { from = refl; to = refl; typed = typed_tag One x a (made_before a) t (before_right a).typed h.typed refl h.from h.to } in
    rw h.from right

list_right : (f : Declared) (item a : Kind) → IsTypedFrom f (Product item a) a → (level : ℕ) → IsTypedFrom (list_fold f level) (Product (list_kind level item) a) a
list_right f item a h zero = there_right a item f h
list_right f item a h (suc level) =
    let block = copies_kind (2 ^ suc level) item in
    in_turn_right a (Sum One block) (list_kind level item) (where_there (array_fold f (2 ^ suc level))) (list_fold f level) (there_right a block (array_fold f (2 ^ suc level)) (array_right f item a h (2 ^ suc level))) (list_right f item a h level)

pub folds_typed : FoldsTyped
folds_typed f item a h = (array_right f item a h, list_right f item a h)

-- a loop with a counter
turned : (a c bit_kind : Kind) (k : Kind) (f bit : Declared) → IsTypedFrom f (Product a (Product c bit_kind)) k → IsTypedFrom bit (Product a c) bit_kind → IsTypedFrom (turn_of a c f bit) (Product a c) k
turned a c bit_kind k f bit h g =
    let first = on_first c (iden a) in
    let rest = pair (on_second a (iden c)) bit in
    record {
      from = refl;
      to = h.to;
      typed = typed_comp (pair first rest) f
          (typed_pair first rest (typed_first c (iden a) (row.Iden a)) (typed_pair (on_second a (iden c)) bit (typed_second a (iden c) (row.Iden c)) g.typed g.from) refl) h.typed
          (ap (λ b. Product a (Product c b)) g.to ∙ sym h.from);
    }

two_right : (a c b : Kind) (f : Declared) → IsTypedFrom f (Product a (Product c (Sum One One))) (Sum b a) → IsTypedFrom (two_turns_of a c b f) (Product a c) (Sum b a)
two_right a c b f h =
    let input = Product a c in
    let zero_right : IsTypedFrom (zero_bit a c) input (Sum One One) = record { from = refl; to = refl; typed = typed_left One (unit input) (row.UnitTerm input) } in
    let one_right : IsTypedFrom (one_bit a c) input (Sum One One) = record { from = refl; to = refl; typed = typed_right One (unit input) (row.UnitTerm input) } in
    let first = turn_of a c f (zero_bit a c) in
    let second = turn_of a c f (one_bit a c) in
    let first_right = turned a c (Sum One One) (Sum b a) f (zero_bit a c) h zero_right in
    let second_right = turned a c (Sum One One) (Sum b a) f (one_bit a c) h one_right in
    let ended = to_left a (on_first c (iden b)) in
    let by = by_tag b a c ended second in
    record {
      from = refl;
      to = refl;
      typed = typed_comp (pair first (on_second a (iden c))) by
          (typed_pair first (on_second a (iden c)) first_right.typed (typed_second a (iden c) (row.Iden c)) refl)
          (typed_tag b a c ended second (typed_left a (on_first c (iden b)) (typed_first c (iden b) (row.Iden b))) second_right.typed refl refl second_right.to)
          (ap (λ k. Product k c) first_right.to);
    }

grouped_right : (a c n k : Kind) (f : Declared) → IsTypedFrom f (Product a (Product c (Product n n))) k → IsTypedFrom (regrouped_of a c n f) (Product a (Product (Product c n) n)) k
grouped_right a c n k f h =
    let inner = Product c n in
    let w = on_first (Product inner n) (iden a) in
    let x = on_second a (on_first n (on_first n (iden c))) in
    let y = on_second a (on_first n (on_second c (iden n))) in
    let z = on_second a (on_second inner (iden n)) in
    let x_typed = typed_second a (on_first n (on_first n (iden c))) (typed_first n (on_first n (iden c)) (typed_first n (iden c) (row.Iden c))) in
    let y_typed = typed_second a (on_first n (on_second c (iden n))) (typed_first n (on_second c (iden n)) (typed_second c (iden n) (row.Iden n))) in
    let z_typed = typed_second a (on_second inner (iden n)) (typed_second inner (iden n) (row.Iden n)) in
    record {
      from = refl;
      to = h.to;
      typed = typed_comp (pair w (pair x (pair y z))) f
          (typed_pair w (pair x (pair y z)) (typed_first (Product inner n) (iden a) (row.Iden a)) (typed_pair x (pair y z) x_typed (typed_pair y z y_typed z_typed refl) refl) refl)
          h.typed (sym h.from);
    }

pub whiles_typed : WhilesTyped
whiles_typed zero f a c b h =
    subst (λ k. IsTypedFrom (two_turns_of (first_of k) (first_of (second_of k)) (left_of (target f)) f) (Product a c) (Sum b a)) (sym h.from)
    (subst (λ k. IsTypedFrom (two_turns_of a c (left_of k) f) (Product a c) (Sum b a)) (sym h.to) (two_right a c b f h))
whiles_typed (suc k) f a c b h =
    let n = word_kind k in
    let grouped : IsTypedFrom (regrouped k f) (Product a (Product (Product c n) n)) (Sum b a) =
    subst (λ s. IsTypedFrom (regrouped_of (first_of s) (first_of (second_of s)) n f) (Product a (Product (Product c n) n)) (Sum b a)) (sym h.from) (grouped_right a c n (Sum b a) f h) in
    whiles_typed k (while_at k (regrouped k f)) a c b (whiles_typed k (regrouped k f) a (Product c n) b grouped)

-- the recursion that code makes
abbrev fold_of : Declared → List Declared → Declared
fold_of f ts = halves (length ts) (made_before (made_kind f)) in_turn ts

as_fold : (f : Declared) (n : ℕ) → fold_of f (replicate n f) ≡ array_fold f n
as_fold f n = ap (λ t. halves t (made_before (made_kind f)) in_turn (replicate n f)) (length-replicate n f)

pub arrays_halve : ArraysHalve
arrays_halve f n some =
    sym (as_fold f n)
    ∙ halves_pair (made_before (made_kind f)) in_turn (replicate n f) (omega (arith, some, length-replicate n f))
    ∙ ap (λ s. in_turn s (fold_of f (drop (length (replicate n f) / 2) (replicate n f)))) (ap (fold_of f) (front_of f n) ∙ as_fold f (n / 2))
    ∙ ap (in_turn (array_fold f (n / 2))) (ap (fold_of f) (back_of f n) ∙ as_fold f (n - n / 2))
