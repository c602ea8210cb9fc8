-- How many witness nodes a list has, and which numbers an ordered list gives them.
use Rattle.std.proofs.Common.{◌≡◌, refl, ap, sym, ◌∙◌, ℕ, zero, suc, ◌+◌, ◌-◌, ◌<◌, ◌≤◌, List, [], ◌∷◌, length, Option, Some, arith}
use Rattle.std.specs.Prelude.{slice_get}
use Rattle.std.specs.List.{range_with_len, slice_index_or}
use Rattle.std.specs.Option.{unwrap_or, option_map}
use Rattle.std.proofs.lemmas.List.{length-map}
use Rattle.std.proofs.lemmas.Option.{slice_get-map, get_or_from_slice_get}
use Rattle.simplicity.specs.Nodes as node
use Rattle.simplicity.specs.Nodes.{Node, count_after, witness_number}
use Rattle.simplicity.specs.Order.{IsOrdered}
use Rattle.simplicity.specs.Typing.{Typing}
use Rattle.simplicity.specs.Pruning.{renamed, picked, numbers_next, numbers_at, gathered_numbers, IsMerged}
use Rattle.simplicity.specs.Canon.{names_at}
use Rattle.sharing.specs.Images.{images}
use Rattle.sharing.specs.Laws.{IsOnto}
use Rattle.sharing.proofs.Merging.{within_of, there_at}
use Rattle.sharing.proofs.Merged.{Split, Less, More, split, witness_back, same_elements}
use Rattle.sharing.proofs.Orderly.{range_get, range_length}
use Rattle.sharing.proofs.Gathering.{Within, within_rest, picked_is}
use Rattle.sharing.proofs.Unfolded.{count_renamed, number_next, merge_keeps_numbers}

count_more : (n : Node) (a b : ℕ) → a ≤ b → count_after n a ≤ count_after n b
count_more node.Witness a b h = omega (arith, h)
count_more _ a b h = h

pub number_first : (ns : List Node) → witness_number ns 0 ≡ 0
number_first [] = refl
number_first (n ∷ ns) = refl

pub number_rises : (ns : List Node) (i : ℕ) → witness_number ns i ≤ witness_number ns (length ns)
number_rises [] i = omega arith
number_rises (n ∷ ns) zero = omega arith
number_rises (n ∷ ns) (suc i) = count_more n (witness_number ns i) (witness_number ns (length ns)) (number_rises ns i)

-- the number of a witness node is below the number of all
pub number_below : (ns : List Node) (i : ℕ) → slice_get ns i ≡ Some node.Witness → witness_number ns i < witness_number ns (length ns)
number_below ns i is = omega (arith, number_next ns i node.Witness is, number_rises ns (suc i))

-- the witness node of a number
pub record Found (ns : List Node) (w : ℕ) : Type 0 where
  pub place : ℕ
  pub is : slice_get ns place ≡ Some node.Witness
  pub number : witness_number ns place ≡ w

found_here : (ns : List Node) (k w : ℕ) → slice_get ns k ≡ Some node.Witness → w < witness_number ns k + 1 → (w < witness_number ns k → Found ns w) → Split w (witness_number ns k) → Found ns w
found_here ns k w is l rest (Less h) = rest h
found_here ns k w is l rest (More h) = record { place = k; is = is; number = omega (arith, l, h) }

found_by : (ns : List Node) (k w : ℕ) (n : Node) → slice_get ns k ≡ Some n → w < count_after n (witness_number ns k) → (w < witness_number ns k → Found ns w) → Found ns w
found_by ns k w node.Witness is l rest = found_here ns k w is l rest (split w (witness_number ns k))
found_by ns k w _ is l rest = rest l

found : (ns : List Node) (k w : ℕ) → k ≤ length ns → w < witness_number ns k → Found ns w
found ns zero w h l = absurd (omega (arith, l, number_first ns))
found ns (suc k) w h l =
    let n = there_at ns k (omega (arith, h)) in
    found_by ns k w n.0 n.1 (omega (arith, l, number_next ns k n.0 n.1)) (λ g. found ns k w (omega (arith, h)) g)

-- where each number of a witness node is one of another list, that has as many at least
counted_by : (ns ms : List Node) (t : ℕ) → witness_number ns (length ns) ≡ t → ((i : ℕ) → slice_get ns i ≡ Some node.Witness → Found ms (witness_number ns i)) → t ≤ witness_number ms (length ms)
counted_by ns ms zero e on = omega arith
counted_by ns ms (suc w) e on =
    let last = found ns (length ns) w (omega arith) (omega (arith, e)) in
    let there = on last.place last.is in
    omega (arith, there.number, last.number, number_below ms there.place there.is)

counted : (ns ms : List Node) → ((i : ℕ) → slice_get ns i ≡ Some node.Witness → Found ms (witness_number ns i)) → witness_number ns (length ns) ≤ witness_number ms (length ms)
counted ns ms on = counted_by ns ms (witness_number ns (length ns)) refl on

-- merging keeps the number of witness nodes
pub merged_count : (ns ms : List Node) (ts us : Typing) (f : ℕ → ℕ) → IsMerged ns ts ms us f → images f (range_with_len 0 (length ns)) ≡ range_with_len 0 (length ms) → IsOnto f (length ns) (length ms) →
    witness_number ms (length ms) ≡ witness_number ns (length ns)
merged_count ns ms ts us f merged in_order onto =
    let keeps = merge_keeps_numbers ns ms ts us f merged in_order in
    let more = counted ns ms (λ i is. record { place = f i; is = merged.nodes i node.Witness is; number = keeps i (within_of ns i node.Witness is) is }) in
    let fewer = counted ms ns
    (λ j is.
    let from = onto j (within_of ms j node.Witness is) in
    let n = there_at ns from.0 from.1 in
    let same : Some (renamed f n.0) ≡ Some node.Witness = sym (merged.nodes from.0 n.0 n.1) ∙ ap (slice_get ms) from.2 ∙ is in
    let renamed_is : renamed f n.0 ≡ node.Witness = cc in
    let old : slice_get ns from.0 ≡ Some node.Witness = n.1 ∙ ap Some (witness_back f n.0 renamed_is) in
    record { place = from.0; is = old; number = sym (keeps from.0 from.1 old) ∙ ap (witness_number ms) from.2 }) in
    omega (arith, more, fewer)

-- as many numbers as witness nodes are picked
long_next : (n : Node) (k : ℕ) (rest : List ℕ) → length (numbers_next (Some n) k rest) ≡ count_after n (length rest)
long_next node.Witness k rest = omega arith
long_next _ k rest = refl

pub numbers_long : (f : ℕ → ℕ) (ns : List Node) (is : List ℕ) → Within ns is → length (numbers_at ns is) ≡ witness_number (picked f ns is) (length (picked f ns is))
numbers_long f ns [] within = refl
numbers_long f ns (x ∷ is) within =
    let m = there_at ns x (within.each 0 x refl) in
    let rest = numbers_long f ns is (within_rest ns x is within) in
    let w = witness_number (picked f ns is) (length (picked f ns is)) in
    ap (λ (o : Option Node). length (numbers_next o (witness_number ns x) (numbers_at ns is))) m.1 ∙ long_next m.0 (witness_number ns x) (numbers_at ns is) ∙ ap (count_after m.0) rest
    ∙ sym (ap (λ (l : List Node). witness_number l (length l)) (picked_is f ns is x m.0 m.1) ∙ count_renamed f m.0 w)

-- an ordered list numbers its witness nodes one after the other
range_next : (n : Node) (w t : ℕ) (rest : List ℕ) → count_after n w ≤ t → rest ≡ range_with_len (count_after n w) (t - count_after n w) → numbers_next (Some n) w rest ≡ range_with_len w (t - w)
range_next node.Witness w t rest l e =
    let more : suc (t - (w + 1)) ≡ t - w = omega (arith, l) in
    ap (λ (r : List ℕ). w ∷ r) e ∙ ap (range_with_len w) more
range_next _ w t rest l e = e

numbers_from : (ns : List Node) (k l : ℕ) → k + l ≡ length ns → numbers_at ns (range_with_len k l) ≡ range_with_len (witness_number ns k) (witness_number ns (length ns) - witness_number ns k)
numbers_from ns k zero h =
    let none : 0 ≡ witness_number ns (length ns) - witness_number ns k = omega (arith, ap (witness_number ns) (sym h), ap (witness_number ns) (let z : k + 0 ≡ k = omega arith in z)) in
    ap (range_with_len (witness_number ns k)) none
numbers_from ns k (suc l) h =
    let n = there_at ns k (omega (arith, h)) in
    let next : witness_number ns (k + 1) ≡ count_after n.0 (witness_number ns k) = ap (witness_number ns) (let z : k + 1 ≡ suc k = omega arith in z) ∙ number_next ns k n.0 n.1 in
    let rest = numbers_from ns (k + 1) l (omega (arith, h)) ∙ ap (λ (w : ℕ). range_with_len w (witness_number ns (length ns) - w)) next in
    ap (λ (o : Option Node). numbers_next o (witness_number ns k) (numbers_at ns (range_with_len (k + 1) l))) n.1
    ∙ range_next n.0 (witness_number ns k) (witness_number ns (length ns)) (numbers_at ns (range_with_len (k + 1) l)) (omega (arith, next, number_rises ns (k + 1))) rest

pub ordered_numbers : (ns : List Node) → IsOrdered ns → gathered_numbers ns ≡ range_with_len 0 (witness_number ns (length ns))
ordered_numbers ns ordered =
    let none = number_first ns in
    let all : witness_number ns (length ns) - witness_number ns 0 ≡ witness_number ns (length ns) = omega (arith, none) in
    ap (numbers_at ns) ordered ∙ numbers_from ns 0 (length ns) (omega arith) ∙ ap (λ (w : ℕ). range_with_len w (witness_number ns (length ns) - witness_number ns 0)) none ∙ ap (range_with_len 0) all

names_all : (names : List ℕ) → names ≡ names_at names (range_with_len 0 (length names))
names_all names =
    let g = λ (k : ℕ). unwrap_or (slice_get names k) 0 in
    same_elements names (names_at names (range_with_len 0 (length names))) (sym (length-map (range_with_len 0 (length names)) g ∙ range_length 0 (length names)))
    (λ i x is.
    let here = range_get 0 (length names) i (within_of names i x is) in
    let zero_more : 0 + i ≡ i = omega arith in
    slice_get-map g (range_with_len 0 (length names)) i ∙ ap (option_map g) (here ∙ ap Some zero_more) ∙ ap (λ (o : Option ℕ). Some (unwrap_or o 0)) is)

-- so its names are those that it has
pub ordered_names : (ns : List Node) (names : List ℕ) → IsOrdered ns → length names ≡ witness_number ns (length ns) → names ≡ names_at names (gathered_numbers ns)
ordered_names ns names ordered named =
    names_all names ∙ ap (λ (w : ℕ). names_at names (range_with_len 0 w)) named ∙ ap (names_at names) (sym (ordered_numbers ns ordered))

pub ordered_number : (ns : List Node) (k : ℕ) → IsOrdered ns → k < witness_number ns (length ns) → slice_index_or (gathered_numbers ns) k 0 ≡ k
ordered_number ns k ordered l =
    let zero_more : 0 + k ≡ k = omega arith in
    get_or_from_slice_get (gathered_numbers ns) k k 0 (ap (λ (is : List ℕ). slice_get is k) (ordered_numbers ns ordered) ∙ range_get 0 (witness_number ns (length ns)) k l ∙ ap Some zero_more)
