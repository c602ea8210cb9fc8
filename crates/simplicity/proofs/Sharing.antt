-- Sharing by numbers: where some number of node and entry differs at each two places, the list is shared.
use Rattle.std.proofs.Common.{◌≡◌, refl, ap, sym, ◌∙◌, ℕ, zero, suc, ◌+◌, ◌*◌, ◌<◌, Bool, true, false, not, ◌&&◌, ◌||◌, List, [], ◌∷◌, Option, Some, None, arith, eq-eqb}
use Rattle.std.specs.Prelude.{slice_get, slice_index, nat_eq}
use Rattle.simplicity.specs.Types.{size, weight}
use Rattle.simplicity.specs.Nodes.{Node}
use Rattle.simplicity.specs.Nodes as node
use Rattle.simplicity.specs.Order.{has}
use Rattle.simplicity.specs.Typing.{Typing, Arrow}
use Rattle.simplicity.specs.Shared.{IsShared}

-- the numbers of the nodes with their entries
abbrev pub numbers_of : (Node → Option (Option Arrow) → ℕ) → List Node → Typing → List ℕ
numbers_of f [] ts = []
numbers_of f (n ∷ ns) [] = f n None ∷ numbers_of f ns []
numbers_of f (n ∷ ns) (e ∷ ts) = f n (Some e) ∷ numbers_of f ns ts

-- no number stands twice
abbrev pub are_apart : List ℕ → Bool
are_apart [] = true
are_apart (k ∷ ks) = not (has k ks) && are_apart ks

number_at : (f : Node → Option (Option Arrow) → ℕ) (ns : List Node) (ts : Typing) (i : ℕ) (n : Node) → slice_get ns i ≡ Some n →
    slice_get (numbers_of f ns ts) i ≡ Some (f n (slice_get ts i))
number_at f [] ts i n is = absurd (cc)
number_at f (m ∷ ns) [] zero n is = let same : m ≡ n = cc in cc
number_at f (m ∷ ns) [] (suc i) n is = number_at f ns [] i n is
number_at f (m ∷ ns) (e ∷ ts) zero n is = let same : m ≡ n = cc in cc
number_at f (m ∷ ns) (e ∷ ts) (suc i) n is = number_at f ns ts i n is

either_true : (a b : Bool) → b ≡ true → a || b ≡ true
either_true false b e = e
either_true true b e = refl

has_there : (ks : List ℕ) (i x : ℕ) → slice_get ks i ≡ Some x → has x ks ≡ true
has_there [] i x is = absurd (cc)
has_there (k ∷ ks) zero x is =
    let same : x ≡ k = cc in
    let passed : nat_eq x k ≡ true = eq-eqb x k same in
    rw passed refl
has_there (k ∷ ks) (suc i) x is = either_true (nat_eq x k) (has x ks) (has_there ks i x is)

pub both_true : (a b : Bool) → a && b ≡ true → (a ≡ true) × (b ≡ true)
both_true false b e = absurd (cc)
both_true true b e = (refl, e)

apart : (ks : List ℕ) (i j x : ℕ) → are_apart ks ≡ true → i < j → slice_get ks i ≡ Some x → slice_get ks j ≡ Some x → ⊥
apart [] i j x a l f g = absurd (cc)
apart (k ∷ ks) i zero x a l f g = absurd (omega arith)
apart (k ∷ ks) zero (suc j) x a l f g =
    let same : k ≡ x = cc in
    let there : has k ks ≡ true = has_there ks j k (g ∙ ap Some (sym same)) in
    let gone : not (has k ks) ≡ true = (both_true (not (has k ks)) (are_apart ks) a).0 in
    absurd (cc)
apart (k ∷ ks) (suc i) (suc j) x a l f g = apart ks i j x (both_true (not (has k ks)) (are_apart ks) a).1 (omega arith) f g

pub shared_by : (f : Node → Option (Option Arrow) → ℕ) (ns : List Node) (ts : Typing) → are_apart (numbers_of f ns ts) ≡ true → IsShared ns ts
shared_by f ns ts a i j l same =
    let first = number_at f ns ts i same.same same.first in
    let second = number_at f ns ts j same.same same.second in
    apart (numbers_of f ns ts) i j (f same.same (slice_get ts i)) a l first (second ∙ ap (λ e. Some (f same.same e)) (sym same.arrows))

-- a number for the nodes of the worked programs
abbrev pub mark : Node → ℕ
mark node.Iden = 0
mark node.UnitNode = 1
mark (node.Injl t) = 2 + 16 * t
mark (node.Injr t) = 3 + 16 * t
mark (node.Take t) = 4 + 16 * t
mark (node.Drop t) = 5 + 16 * t
mark (node.Comp s t) = 6 + 16 * s + 4096 * t
mark (node.Case s t) = 7 + 16 * s + 4096 * t
mark (node.Pair s t) = 8 + 16 * s + 4096 * t
mark (node.Hidden h) = 9 + 16 * slice_index h 0
mark (node.Fail e) = 10
mark node.Witness = 11
mark (node.Word k n) = 12 + 16 * k + 4096 * n

-- and one for a node with its entry, by the weight and the size of its source
abbrev pub mark_with : Node → Option (Option Arrow) → ℕ
mark_with n (Some (Some a)) = mark n + 1048576 * weight a.source + 1099511627776 * size a.source
mark_with n _ = mark n
