-- One pass puts each node into the class of its key.
use Rattle.std.proofs.Common.{◌≡◌, refl, ap, sym, ◌∙◌, ℕ, zero, suc, ◌+◌, ◌-◌, ◌<◌, ◌≤◌, true, false, List, [], ◌∷◌, ◌++◌, length, map, Option, Some, arith, length-append}
use Rattle.std.specs.Prelude.{slice_get}
use Rattle.std.specs.List.{range_with_len}
use Rattle.simplicity.specs.Nodes as node
use Rattle.simplicity.specs.Nodes.{Node, AreUnder, children, IsPlaced, CanFollow}
use Rattle.simplicity.specs.Order.{has}
use Rattle.simplicity.specs.Typing.{Typing, Arrow}
use Rattle.simplicity.specs.Shared.{IsShared}
use Rattle.simplicity.specs.Pruning.{renamed, IsMerged}
use Rattle.simplicity.proofs.Unfold.{follows_at, children_under}
use Rattle.sharing.specs.Images.{added, into, images}
use Rattle.share_order.specs.Keys.{Key, number_for, own_key, place_at, key_for, Classes}
use Rattle.sharing.proofs.Merging.{within_of, there_at}
use Rattle.sharing.proofs.Walks.{images_last}
use Rattle.sharing.proofs.Orderly.{range_last, has_range_past, last_case}
use Rattle.sharing.proofs.Merged.{renamed_same, has_range}

index_front : (xs : List ℕ) (c i : ℕ) → i < length xs → place_at (xs ++ c ∷ []) i ≡ place_at xs i
index_front [] c i h = absurd (omega arith)
index_front (x ∷ xs) c zero h = refl
index_front (x ∷ xs) c (suc i) h = index_front xs c i (omega arith)

index_last : (xs : List ℕ) (c : ℕ) → place_at (xs ++ c ∷ []) (length xs) ≡ c
index_last [] c = refl
index_last (x ∷ xs) c = index_last xs c

get_front : {A : Type 0} (xs ys : List A) (i : ℕ) (x : A) → slice_get xs i ≡ Some x → slice_get (xs ++ ys) i ≡ Some x
get_front [] ys i x h = absurd (cc)
get_front (y ∷ xs) ys zero x h = h
get_front (y ∷ xs) ys (suc i) x h = get_front xs ys i x h

get_end : {A : Type 0} (xs : List A) (y : A) → slice_get (xs ++ y ∷ []) (length xs) ≡ Some y
get_end [] y = refl
get_end (x ∷ xs) y = get_end xs y

into_alike : (f h : ℕ → ℕ) (acc : List ℕ) (low k n : ℕ) → low + k ≤ n → ((i : ℕ) → i < n → f i ≡ h i) → into f acc (range_with_len low k) ≡ into h acc (range_with_len low k)
into_alike f h acc low zero n l on = refl
into_alike f h acc low (suc k) n l on =
    ap (λ (x : ℕ). into f (added x acc) (range_with_len (low + 1) k)) (on low (omega arith)) ∙ into_alike f h (added (h low) acc) (low + 1) k n (omega arith) on

-- how the keys grow: the key is found, or it is new and goes last
pub data Grows {A : Type 0} (keys : List (Key A)) (key : Key A) (c : ℕ) : List (Key A) → Type 0 where
  Old : slice_get keys c ≡ Some key → Grows keys key c keys
  New : c ≡ length keys → Grows keys key c (keys ++ key ∷ [])

pub grown_there : {A : Type 0} (keys more : List (Key A)) (key : Key A) (c : ℕ) → Grows keys key c more → slice_get more c ≡ Some key
grown_there keys _ key c (Old h) = h
grown_there keys _ key c (New e) = ap (slice_get (keys ++ key ∷ [])) e ∙ get_end keys key

pub grown_front : {A : Type 0} (keys more : List (Key A)) (key k : Key A) (c i : ℕ) → Grows keys key c more → slice_get keys i ≡ Some k → slice_get more i ≡ Some k
grown_front keys _ key k c i (Old h) e = e
grown_front keys _ key k c i (New g) e = get_front keys (key ∷ []) i k e

grown_order : {A : Type 0} (keys more : List (Key A)) (key : Key A) (c : ℕ) → Grows keys key c more → added c (range_with_len 0 (length keys)) ≡ range_with_len 0 (length more)
grown_order keys _ key c (Old h) =
    let there : has c (range_with_len 0 (length keys)) ≡ true = has_range 0 (length keys) c (omega arith) (let i = within_of keys c key h in omega arith) in
    rw there refl
grown_order keys _ key c (New e) =
    let new : has c (range_with_len 0 (length keys)) ≡ false = has_range_past 0 (length keys) c (omega arith) in
    let first : added c (range_with_len 0 (length keys)) ≡ range_with_len 0 (length keys) ++ c ∷ [] = rw new refl in
    let count : length (keys ++ key ∷ []) ≡ suc (length keys) = simp length-append (omega arith) in
    let place : c ≡ 0 + length keys = omega arith in
    first ∙ ap (λ (x : ℕ). range_with_len 0 (length keys) ++ x ∷ []) place ∙ sym (range_last 0 (length keys)) ∙ ap (λ (x : ℕ). range_with_len 0 x) (sym count)

key_same : {A : Type 0} (f h : ℕ → ℕ) (i k : ℕ) (n : Node) (a : A) → AreUnder k (children n) → ((j : ℕ) → j < k → f j ≡ h j) → key_for f i n a ≡ key_for h i n a
key_same f h i k n a u on = ap (λ (m : Node). own_key i m a) (renamed_same f h k n u on)

pub number_plain : (n : Node) (i : ℕ) → (n ≡ node.Witness → ⊥) → number_for n i ≡ 0
number_plain node.Witness i none = absurd (none refl)
number_plain _ i none = refl

grown_plain : {A : Type 0} (keys more : List (Key A)) (key : Key A) (c : ℕ) → Grows keys key c more → ((key.node ≡ node.Witness → ⊥) → key.number ≡ 0) →
    ((j : ℕ) (k : Key A) → slice_get keys j ≡ Some k → (k.node ≡ node.Witness → ⊥) → k.number ≡ 0) → (j : ℕ) (k : Key A) → slice_get more j ≡ Some k → (k.node ≡ node.Witness → ⊥) → k.number ≡ 0
grown_plain keys _ key c (Old h) new old j k is none = old j k is none
grown_plain keys _ key c (New e) new old j k is none =
    last_case keys key k j is (λ g l. old j k g none)
    (λ g same at. ap (λ x. x.number) (sym same) ∙ new (λ w. none (ap (λ x. x.node) (sym same) ∙ w)))

pub at_or_before : {C : Type 0} (i k : ℕ) → i < suc k → (i < k → C) → (i ≡ k → C) → C
at_or_before zero zero l front last = last refl
at_or_before zero (suc k) l front last = front (omega arith)
at_or_before (suc i) zero l front last = absurd (omega arith)
at_or_before (suc i) (suc k) l front last = at_or_before i k (omega arith) (λ h. front (omega arith)) (λ e. last (ap suc e))

-- one more node
pub class_step : {A : Type 0} (ns : List Node) (arrows : List A) (keys more : List (Key A)) (places : List ℕ) (c : ℕ) (n : Node) (a : A) → IsPlaced ns →
    Classes A ns arrows keys places → slice_get ns (length places) ≡ Some n → slice_get arrows (length places) ≡ Some a →
    Grows keys (key_for (place_at places) (length places) n a) c more → Classes A ns arrows more (places ++ c ∷ [])
class_step {A} ns arrows keys more places c n a placed old is has_arrow grows =
    let k = length places in
    let count : length (places ++ c ∷ []) ≡ suc k = simp length-append (omega arith) in
    let same = λ (j : ℕ) (l : j < k). sym (index_front places c j l) in
    record {
      within = (let i = within_of ns k n is in omega arith);
      each = λ i m b l m_is b_is.
          let u = children_under ns i m (follows_at ns i m placed m_is) in
          at_or_before i k (omega arith)
          (λ h.
          let alike = key_same (place_at places) (place_at (places ++ c ∷ [])) i i m b u (λ j g. same j (omega arith)) in
          ap (slice_get more) (index_front places c i h)
          ∙ grown_front keys more (key_for (place_at places) k n a) (key_for (place_at places) i m b) c (place_at places i) grows (old.each i m b h m_is b_is)
          ∙ ap Some alike)
          (λ e.
          let alike = key_same (place_at places) (place_at (places ++ c ∷ [])) i i m b u (λ j g. same j (omega arith)) in
          let m_same : n ≡ m = let p = ap (slice_get ns) e in cc in
          let b_same : a ≡ b = let p = ap (slice_get arrows) e in cc in
          let key_is : key_for (place_at places) k n a ≡ key_for (place_at places) i m b =
          ap (λ (x : Node). key_for (place_at places) k x a) m_same ∙ ap (key_for (place_at places) k m) b_same ∙ ap (λ (x : ℕ). key_for (place_at places) x m b) (sym e) in
          ap (λ (x : ℕ). slice_get more (place_at (places ++ c ∷ []) x)) e ∙ ap (slice_get more) (index_last places c)
          ∙ grown_there keys more (key_for (place_at places) k n a) c grows ∙ ap Some (key_is ∙ alike));
      plain = grown_plain keys more (key_for (place_at places) k n a) c grows (λ none. number_plain (renamed (place_at places) n) k none) old.plain;
      in_order =
          let zero_more : 0 + k ≡ k = omega arith in
          let range_is : range_with_len 0 (length (places ++ c ∷ [])) ≡ range_with_len 0 k ++ k ∷ [] =
          ap (λ (x : ℕ). range_with_len 0 x) count ∙ range_last 0 k ∙ ap (λ (x : ℕ). range_with_len 0 k ++ x ∷ []) zero_more in
          let f = place_at (places ++ c ∷ []) in
          ap (images f) range_is ∙ images_last f (range_with_len 0 k) k
          ∙ ap (λ (x : ℕ). added x (images f (range_with_len 0 k))) (index_last places c)
          ∙ ap (added c) (into_alike f (place_at places) [] 0 k k (omega arith) (λ j l. index_front places c j l) ∙ old.in_order)
          ∙ grown_order keys more (key_for (place_at places) k n a) c grows;
    }

pub no_classes : {A : Type 0} (ns : List Node) (arrows : List A) → Classes A ns arrows [] []
no_classes ns arrows = record { within = omega arith; each = λ i n a l. absurd (omega arith); plain = λ j k is. absurd (cc); in_order = refl }

pub get_map : {A B : Type 0} (f : A → B) (xs : List A) (i : ℕ) (x : A) → slice_get xs i ≡ Some x → slice_get (map f xs) i ≡ Some (f x)
get_map f [] i x h = absurd (cc)
get_map f (y ∷ xs) zero x h = let same : y ≡ x = cc in ap (λ z. Some (f z)) same
get_map f (y ∷ xs) (suc i) x h = get_map f xs i x h

map_length : (ks : List (Key (Option Arrow))) → length (map (λ k. k.node) ks) ≡ length ks
map_length [] = refl
map_length (k ∷ ks) = ap suc (map_length ks)

-- all nodes in their classes: the list is merged
pub classes_merge : (ns : List Node) (ts : Typing) (keys : List (Key (Option Arrow))) (places : List ℕ) → Classes (Option Arrow) ns ts keys places →
    length places ≡ length ns → length ts ≡ length ns → place_at places (length ns - 1) ≡ length keys - 1 →
    IsMerged ns ts (map (λ k. k.node) keys) (map (λ k. k.arrow) keys) (place_at places)
classes_merge ns ts keys places all full long root = record {
  root = root ∙ ap (λ (x : ℕ). x - 1) (sym (map_length keys));
  nodes = λ i n is.
      let inside = within_of ns i n is in
      let a = there_at ts i (omega arith) in
      get_map (λ (k : Key (Option Arrow)). k.node) keys (place_at places i) (key_for (place_at places) i n a.0) (all.each i n a.0 (omega arith) is a.1);
  arrows = λ i l.
      let n = there_at ns i l in
      let a = there_at ts i (omega arith) in
      get_map (λ (k : Key (Option Arrow)). k.arrow) keys (place_at places i) (key_for (place_at places) i n.0 a.0) (all.each i n.0 a.0 (omega arith) n.1 a.1) ∙ sym a.1;
  apart = λ i j is there same.
      let inside = within_of ns i node.Witness is in
      let other = within_of ns j node.Witness there in
      let a = there_at ts i (omega arith) in
      let b = there_at ts j (omega arith) in
      let p = all.each i node.Witness a.0 (omega arith) is a.1 in
      let q = all.each j node.Witness b.0 (omega arith) there b.1 in
      let r = ap (slice_get keys) same in
      let keys_same : key_for (place_at places) i node.Witness a.0 ≡ key_for (place_at places) j node.Witness b.0 = cc in
      ap (λ (k : Key (Option Arrow)). k.number) keys_same;
}

pub from_map : {A B C : Type 0} (f : A → B) (xs : List A) (i : ℕ) (y : B) → slice_get (map f xs) i ≡ Some y → ((x : A) → slice_get xs i ≡ Some x → f x ≡ y → C) → C
from_map f [] i y h on = absurd (cc)
from_map f (x ∷ xs) zero y h on = on x refl (cc)
from_map f (x ∷ xs) (suc i) y h on = from_map f xs i y h on

pub same_key : {A : Type 0} (k m : Key A) → k.node ≡ m.node → k.arrow ≡ m.arrow → k.number ≡ m.number → k ≡ m
same_key {A} k m e f g =
    ap (λ (x : Node). record { node = x; arrow = k.arrow; number = k.number }) e ∙ ap (λ (x : A). record { node = m.node; arrow = x; number = k.number }) f
    ∙ ap (λ (x : ℕ). record { node = m.node; arrow = m.arrow; number = x }) g

-- and shared, where no key stands twice
pub classes_shared : (ns : List Node) (ts : Typing) (keys : List (Key (Option Arrow))) (places : List ℕ) → Classes (Option Arrow) ns ts keys places →
    ((i j : ℕ) (k : Key (Option Arrow)) → i < j → slice_get keys i ≡ Some k → slice_get keys j ≡ Some k → ⊥) → IsShared (map (λ k. k.node) keys) (map (λ k. k.arrow) keys)
classes_shared ns ts keys places all once i j l same =
    from_map (λ k. k.node) keys i same.same same.first
    (λ k k_is k_node. from_map (λ k. k.node) keys j same.same same.second
    (λ m m_is m_node.
    let k_zero = all.plain i k k_is (λ w. same.plain (sym k_node ∙ w)) in
    let m_zero = all.plain j m m_is (λ w. same.plain (sym m_node ∙ w)) in
    let left = get_map (λ (x : Key (Option Arrow)). x.arrow) keys i k k_is in
    let right = get_map (λ (x : Key (Option Arrow)). x.arrow) keys j m m_is in
    let arrows : k.arrow ≡ m.arrow = let e = same.arrows in cc in
    let keys_same : k ≡ m = same_key k m (k_node ∙ sym m_node) arrows (k_zero ∙ sym m_zero) in
    once i j k l k_is (m_is ∙ ap Some (sym keys_same))))
