-- Arrows and names gathered one after the other.
use Rattle.std.proofs.Common.{◌≡◌, refl, ap, sym, subst, ◌∙◌, ℕ, zero, suc, ◌+◌, ◌<◌, ◌≤◌, List, [], ◌∷◌, ◌++◌, length, take, map, Option, Some, None, get_or, arith, slice_get}
use Rattle.std.specs.List.{range_with_len, slice_index_or}
use Rattle.std.specs.Option.{unwrap_or, option_map}
use Rattle.std.proofs.lemmas.List.{map-append, length-map}
use Rattle.std.proofs.lemmas.Option.{slice_get-map, slice_get-get_or, get_or_from_slice_get}
use Rattle.simplicity.specs.Nodes as node
use Rattle.simplicity.specs.Nodes.{Node, AreUnder, count_after, witness_number}
use Rattle.simplicity.specs.Pruning.{numbers_next, numbers_at}
use Rattle.simplicity.specs.Canon.{names_at}
use Rattle.sharing.proofs.Orderly.{range_last, range_get, range_length}
use Rattle.sharing.proofs.Unfolded.{number_next}
use Rattle.infer_cells.specs.declared.typing.NodeArrow.{NodeArrow}
use Rattle.canon_list.specs.Canons.{arrows_at}

-- numbers below one
pub under_at : (n : ℕ) (is : List ℕ) (k i : ℕ) → AreUnder n is → slice_get is k ≡ Some i → i < n
under_at n [] k i under h = absurd (cc)
under_at n (x ∷ is) zero i under h = let same : x ≡ i = cc in subst (λ (y : ℕ). y < n) same under.0
under_at n (x ∷ is) (suc k) i under h = under_at n is k i under.1 h

pub item_under : (n : ℕ) (is : List ℕ) (k d : ℕ) → AreUnder n is → k < length is → get_or is k d < n
item_under n is k d under l = under_at n is k (get_or is k d) under (slice_get-get_or is k d l)

-- no node before one has a greater number than its place
number_small : (ns : List Node) (i : ℕ) → witness_number ns i ≤ i
number_small [] i = omega arith
number_small (n ∷ ns) zero = omega arith
number_small (n ∷ ns) (suc i) = small n (witness_number ns i) i (number_small ns i)
  where
    small : (n : Node) (w i : ℕ) → w ≤ i → count_after n w ≤ suc i
    small node.Witness w i l = omega (arith, l)
    small _ w i l = omega (arith, l)

pub number_within : (ns : List Node) (i : ℕ) → witness_number ns i ≤ i
number_within ns i = number_small ns i

-- the numbers of all nodes before one
pub numbers_more : (ns : List Node) (k : ℕ) (numbers : List ℕ) (count : ℕ) → numbers ≡ map (witness_number ns) (range_with_len 0 k) → count ≡ witness_number ns k →
    numbers ++ count ∷ [] ≡ map (witness_number ns) (range_with_len 0 (k + 1))
numbers_more ns k numbers count e c =
    let next : k + 1 ≡ suc k = omega arith in
    let last : 0 + k ≡ k = omega arith in
    ap (λ (l : List ℕ). l ++ count ∷ []) e ∙ ap (λ (w : ℕ). map (witness_number ns) (range_with_len 0 k) ++ w ∷ []) (c ∙ ap (witness_number ns) (sym last))
    ∙ sym (map-append (witness_number ns) (range_with_len 0 k) ((0 + k) ∷ [])) ∙ ap (map (witness_number ns)) (sym (range_last 0 k) ∙ ap (range_with_len 0) (sym next))

pub count_witness : (ns : List Node) (k count : ℕ) → count ≡ witness_number ns k → slice_get ns k ≡ Some node.Witness → count + 1 ≡ witness_number ns (k + 1)
count_witness ns k count c is =
    let next : k + 1 ≡ suc k = omega arith in
    ap (λ (w : ℕ). w + 1) c ∙ sym (number_next ns k node.Witness is) ∙ ap (witness_number ns) (sym next)

plain_count : (n : Node) (w : ℕ) → (n ≡ node.Witness → ⊥) → count_after n w ≡ w
plain_count node.Witness w none = absurd (none refl)
plain_count _ w none = refl

pub count_plain : (ns : List Node) (k count : ℕ) (n : Node) → count ≡ witness_number ns k → slice_get ns k ≡ Some n → (n ≡ node.Witness → ⊥) → count ≡ witness_number ns (k + 1)
count_plain ns k count n c is plain =
    let next : k + 1 ≡ suc k = omega arith in
    c ∙ sym (plain_count n (witness_number ns k) plain) ∙ sym (number_next ns k n is) ∙ ap (witness_number ns) (sym next)

pub number_at : (ns : List Node) (numbers : List ℕ) (i d : ℕ) → numbers ≡ map (witness_number ns) (range_with_len 0 (length ns)) → i < length ns → get_or numbers i d ≡ witness_number ns i
number_at ns numbers i d e l =
    let zero_more : 0 + i ≡ i = omega arith in
    get_or_from_slice_get numbers i (witness_number ns i) d
    (ap (λ (l : List ℕ). slice_get l i) e ∙ slice_get-map (witness_number ns) (range_with_len 0 (length ns)) i ∙ ap (option_map (witness_number ns)) (range_get 0 (length ns) i l) ∙ ap (λ (x : ℕ). Some (witness_number ns x)) zero_more)

pub numbers_many : (ns : List Node) (numbers : List ℕ) → numbers ≡ map (witness_number ns) (range_with_len 0 (length ns)) → length numbers ≡ length ns
numbers_many ns numbers e = ap (λ (l : List ℕ). length l) e ∙ length-map (range_with_len 0 (length ns)) (witness_number ns) ∙ range_length 0 (length ns)

-- one more of the numbers at these places
next_append : (o : Option Node) (w : ℕ) (xs ys : List ℕ) → numbers_next o w (xs ++ ys) ≡ numbers_next o w xs ++ ys
next_append (Some node.Witness) w xs ys = refl
next_append _ w xs ys = refl

numbers_last : (ns : List Node) (is : List ℕ) (k i : ℕ) → slice_get is k ≡ Some i → numbers_at ns (take (suc k) is) ≡ numbers_at ns (take k is) ++ numbers_next (slice_get ns i) (witness_number ns i) []
numbers_last ns [] k i h = absurd (cc)
numbers_last ns (x ∷ is) zero i h = let same : x ≡ i = cc in ap (λ (y : ℕ). numbers_next (slice_get ns y) (witness_number ns y) []) same
numbers_last ns (x ∷ is) (suc k) i h =
    ap (numbers_next (slice_get ns x) (witness_number ns x)) (numbers_last ns is k i h)
    ∙ next_append (slice_get ns x) (witness_number ns x) (numbers_at ns (take k is)) (numbers_next (slice_get ns i) (witness_number ns i) [])

next_plain : (n : Node) (w : ℕ) → (n ≡ node.Witness → ⊥) → numbers_next (Some n) w [] ≡ []
next_plain node.Witness w none = absurd (none refl)
next_plain _ w none = refl

append_none : (xs : List ℕ) → xs ++ [] ≡ xs
append_none [] = refl
append_none (x ∷ xs) = ap (λ (l : List ℕ). x ∷ l) (append_none xs)

pub names_witness : (ns : List Node) (names is : List ℕ) (k i : ℕ) (gathered : List ℕ) (name : ℕ) → slice_get is k ≡ Some i → slice_get ns i ≡ Some node.Witness →
    gathered ≡ names_at names (numbers_at ns (take k is)) → name ≡ get_or names (witness_number ns i) 0 → witness_number ns i < length names →
    gathered ++ name ∷ [] ≡ names_at names (numbers_at ns (take (k + 1) is))
names_witness ns names is k i gathered name there witness e name_is l =
    let next : k + 1 ≡ suc k = omega arith in
    let g = λ (w : ℕ). unwrap_or (slice_get names w) 0 in
    let own : numbers_next (slice_get ns i) (witness_number ns i) [] ≡ witness_number ns i ∷ [] = ap (λ (o : Option Node). numbers_next o (witness_number ns i) []) witness in
    let all : numbers_at ns (take (k + 1) is) ≡ numbers_at ns (take k is) ++ witness_number ns i ∷ [] =
    ap (λ (m : ℕ). numbers_at ns (take m is)) next ∙ numbers_last ns is k i there ∙ ap (λ (l : List ℕ). numbers_at ns (take k is) ++ l) own in
    let named : name ≡ g (witness_number ns i) = name_is ∙ ap (λ (o : Option ℕ). unwrap_or o 0) (sym (slice_get-get_or names (witness_number ns i) 0 l)) in
    ap (λ (l : List ℕ). l ++ name ∷ []) e ∙ ap (λ (x : ℕ). names_at names (numbers_at ns (take k is)) ++ x ∷ []) named
    ∙ sym (map-append g (numbers_at ns (take k is)) (witness_number ns i ∷ [])) ∙ ap (names_at names) (sym all)

pub names_plain : (ns : List Node) (names is : List ℕ) (k i : ℕ) (gathered : List ℕ) (n : Node) → slice_get is k ≡ Some i → slice_get ns i ≡ Some n → (n ≡ node.Witness → ⊥) →
    gathered ≡ names_at names (numbers_at ns (take k is)) → gathered ≡ names_at names (numbers_at ns (take (k + 1) is))
names_plain ns names is k i gathered n there is_n plain e =
    let next : k + 1 ≡ suc k = omega arith in
    let own : numbers_next (slice_get ns i) (witness_number ns i) [] ≡ [] = ap (λ (o : Option Node). numbers_next o (witness_number ns i) []) is_n ∙ next_plain n (witness_number ns i) plain in
    let all : numbers_at ns (take (k + 1) is) ≡ numbers_at ns (take k is) =
    ap (λ (m : ℕ). numbers_at ns (take m is)) next ∙ numbers_last ns is k i there ∙ ap (λ (l : List ℕ). numbers_at ns (take k is) ++ l) own ∙ append_none (numbers_at ns (take k is)) in
    e ∙ ap (names_at names) (sym all)

-- one more of the arrows at these places
arrows_last : (arrows : List (Option NodeArrow)) (is : List ℕ) (k i : ℕ) → slice_get is k ≡ Some i → arrows_at arrows (take (suc k) is) ≡ arrows_at arrows (take k is) ++ slice_index_or arrows i None ∷ []
arrows_last arrows [] k i h = absurd (cc)
arrows_last arrows (x ∷ is) zero i h = let same : x ≡ i = cc in ap (λ (y : ℕ). slice_index_or arrows y None ∷ []) same
arrows_last arrows (x ∷ is) (suc k) i h = ap (λ (l : List (Option NodeArrow)). slice_index_or arrows x None ∷ l) (arrows_last arrows is k i h)

pub arrows_more : (arrows : List (Option NodeArrow)) (is : List ℕ) (k i : ℕ) (a : Option NodeArrow) (gathered : List (Option NodeArrow)) → slice_get is k ≡ Some i → slice_get arrows i ≡ Some a →
    gathered ≡ arrows_at arrows (take k is) → gathered ++ a ∷ [] ≡ arrows_at arrows (take (k + 1) is)
arrows_more arrows is k i a gathered there at e =
    let next : k + 1 ≡ suc k = omega arith in
    ap (λ (l : List (Option NodeArrow)). l ++ a ∷ []) e ∙ ap (λ (x : Option NodeArrow). arrows_at arrows (take k is) ++ x ∷ []) (sym (get_or_from_slice_get arrows i a None at))
    ∙ sym (arrows_last arrows is k i there) ∙ ap (λ (m : ℕ). arrows_at arrows (take m is)) (sym next)

pub item_at : (is : List ℕ) (k : ℕ) → k < length is → slice_get is k ≡ Some (get_or is k 0)
item_at is k l = slice_get-get_or is k 0 l
