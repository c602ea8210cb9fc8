-- Classes by ids are classes by the arrows that the ids mean, and give a list merged in order.
use Rattle.std.proofs.Common.{◌≡◌, refl, ap, sym, subst, ◌∙◌, ℕ, ◌+◌, ◌-◌, ◌<◌, true, List, [], ◌∷◌, length, map, Option, Some, arith}
use Rattle.std.specs.Prelude.{slice_get}
use Rattle.std.specs.List.{range_with_len}
use Rattle.std.proofs.lemmas.List.{length-map}
use Rattle.simplicity.specs.Types.{Kind}
use Rattle.simplicity.specs.Nodes.{Node, IsPlaced}
use Rattle.simplicity.specs.Order.{has, IsOrdered}
use Rattle.simplicity.specs.Typing.{Typing}
use Rattle.simplicity.specs.Shared.{IsShared}
use Rattle.simplicity.specs.Pruning.{IsMerged}
use Rattle.sharing.specs.Images.{images}
use Rattle.sharing.proofs.Merging.{within_of, there_at}
use Rattle.sharing.proofs.Merged.{into_from, has_range}
use Rattle.sharing.proofs.Orderly.{range_get, range_length}
use Rattle.infer_cells.specs.Typings.{arrow_in, typing_in, AreBelowBound}
use Rattle.infer_cells.specs.declared.typing.NodeArrow.{NodeArrow}
use Rattle.share_order.specs.Keys.{Key, place_at, key_for, nodes_in, arrows_in, Classes, KeysDiffer}
use Rattle.share_order.specs.Merged.{IsMergedInOrder}
use Rattle.share_order.specs.Told.{AreTold}
use Rattle.share_order.proofs.Classing.{get_map, from_map, same_key, classes_merge, classes_shared}
use Rattle.share_order.proofs.Rooted.{root_goes_last}
use Rattle.share_order.proofs.Told.{bound_of, bound_by}

-- a node that went to a class
pub record Came (places : List ℕ) (j : ℕ) : Type 0 where
  pub index : ℕ
  pub within : index < length places
  pub goes : place_at places index ≡ j

pub came : {A : Type 0} (ns : List Node) (arrows : List A) (keys : List (Key A)) (places : List ℕ) → Classes A ns arrows keys places → (j : ℕ) → j < length keys → Came places j
came ns arrows keys places all j l =
    let range = range_with_len 0 (length places) in
    let there : has j (images (place_at places) range) ≡ true = ap (has j) all.in_order ∙ has_range 0 (length keys) j (omega arith) (omega arith) in
    into_from (place_at places) j [] range there (λ g. absurd (cc))
    (λ k i g e.
    let inside = within_of range k i g in
    let count = range_length 0 (length places) in
    let l : k < length places = omega (arith, inside, count) in
    let same : Some (0 + k) ≡ Some i = sym (range_get 0 (length places) k l) ∙ g in
    let is : 0 + k ≡ i = cc in
    record { index = i; within = omega (arith, is, l); goes = e })

module _ {A B : Type 0} (h : A → B) where
  abbrev pub rekeyed : Key A → Key B
  rekeyed k = record { node = k.node; arrow = h k.arrow; number = k.number }

  nodes_along : (keys : List (Key A)) → nodes_in (map rekeyed keys) ≡ nodes_in keys
  nodes_along [] = refl
  nodes_along (k ∷ keys) = ap (λ (l : List Node). k.node ∷ l) (nodes_along keys)

  arrows_along : (keys : List (Key A)) → arrows_in (map rekeyed keys) ≡ map h (arrows_in keys)
  arrows_along [] = refl
  arrows_along (k ∷ keys) = ap (λ (l : List B). h k.arrow ∷ l) (arrows_along keys)

  classes_along : (ns : List Node) (arrows : List A) (keys : List (Key A)) (places : List ℕ) → Classes A ns arrows keys places → Classes B ns (map h arrows) (map rekeyed keys) places
  classes_along ns arrows keys places all = record {
    within = all.within;
    each = λ i n b l n_is b_is.
        from_map h arrows i b b_is
        (λ a a_is same.
        get_map rekeyed keys (place_at places i) (key_for (place_at places) i n a) (all.each i n a l n_is a_is)
        ∙ ap (λ (x : B). Some (key_for (place_at places) i n x)) same);
    plain = λ j k k_is none.
        from_map rekeyed keys j k k_is
        (λ m m_is same. ap (λ (x : Key B). x.number) (sym same) ∙ all.plain j m m_is (λ w. none (ap (λ (x : Key B). x.node) (sym same) ∙ w)));
    in_order = all.in_order ∙ ap (range_with_len 0) (sym (length-map keys rekeyed));
  }

  differ_along : (keys : List (Key A)) → KeysDiffer keys → ((i j : ℕ) (x y : Key A) → slice_get keys i ≡ Some x → slice_get keys j ≡ Some y → h x.arrow ≡ h y.arrow → x.arrow ≡ y.arrow) →
      KeysDiffer (map rekeyed keys)
  differ_along keys differ tell i j k l k_is there =
      from_map rekeyed keys i k k_is
      (λ x x_is x_same. from_map rekeyed keys j k there
      (λ y y_is y_same.
      let same = x_same ∙ sym y_same in
      let arrows = tell i j x y x_is y_is (ap (λ (m : Key B). m.arrow) same) in
      let keys_same = same_key x y (ap (λ (m : Key B). m.node) same) arrows (ap (λ (m : Key B). m.number) same) in
      differ i j x l x_is (y_is ∙ ap Some (sym keys_same))))

module _ {A : Type 0} (ns : List Node) (arrows : List A) (keys : List (Key A)) (places : List ℕ) (all : Classes A ns arrows keys places) (full : length places ≡ length ns)
    (long : length arrows ≡ length ns) where
  -- the arrow of a key is one of the list
  pub arrow_from : (j : ℕ) (k : Key A) → slice_get keys j ≡ Some k → (i : ℕ) × (slice_get arrows i ≡ Some k.arrow)
  arrow_from j k is =
      let from = came ns arrows keys places all j (within_of keys j k is) in
      let l = from.within in
      let n = there_at ns from.index (omega (arith, l, full)) in
      let a = there_at arrows from.index (omega (arith, l, full, long)) in
      let key_is = all.each from.index n.0 a.0 from.within n.1 a.1 in
      let same : Some (key_for (place_at places) from.index n.0 a.0) ≡ Some k = sym key_is ∙ ap (slice_get keys) from.goes ∙ is in
      let one : key_for (place_at places) from.index n.0 a.0 ≡ k = cc in
      (from.index, a.1 ∙ ap (λ (x : Key A). Some x.arrow) one)

module _ (kinds : List Kind) (ns : List Node) (ids : List (Option NodeArrow)) (keys : List (Key (Option NodeArrow))) (places : List ℕ)
    (all : Classes (Option NodeArrow) ns ids keys places) (count : length places ≡ length ns) (long : length ids ≡ length ns) where
  pub arrows_bound : (n : ℕ) → AreBelowBound n ids → AreBelowBound n (arrows_in keys)
  arrows_bound n h =
      bound_by n (arrows_in keys)
      (λ j a a_is. from_map (λ (x : Key (Option NodeArrow)). x.arrow) keys j a a_is
      (λ k k_is same.
      let from = arrow_from ns ids keys places all count long j k k_is in
      subst (λ (x : Option NodeArrow). Rattle.infer_cells.specs.Typings.IsBelowBound n x) same (bound_of n ids from.0 k.arrow h from.1)))

  pub classes_in_order : IsPlaced ns → 0 < length ns → IsOrdered ns → AreTold kinds ids → KeysDiffer keys → IsPlaced (nodes_in keys) →
      IsMergedInOrder ns (typing_in kinds ids) (nodes_in keys) (typing_in kinds (arrows_in keys)) (place_at places)
  classes_in_order placed full ordered told differ more =
      let h = arrow_in kinds in
      let f = place_at places in
      let ks = map (rekeyed h) keys in
      let along = classes_along h ns ids keys places all in
      let many : length (nodes_in keys) ≡ length keys = length-map keys (λ (x : Key (Option NodeArrow)). x.node) in
      let nodes = λ (i : ℕ) (n : Node) (is : slice_get ns i ≡ Some n).
      let inside = within_of ns i n is in
      let a = there_at ids i (omega (arith, inside, long)) in
      get_map (λ (x : Key (Option NodeArrow)). x.node) keys (f i) (key_for f i n a.0) (all.each i n a.0 (omega (arith, inside, count)) is a.1) in
      let in_order = ap (λ (k : ℕ). images f (range_with_len 0 k)) (sym count) ∙ all.in_order ∙ ap (range_with_len 0) (sym many) in
      let root = root_goes_last ns (nodes_in keys) f placed more full ordered nodes in_order in
      let ks_many : length ks ≡ length keys = length-map keys (rekeyed h) in
      let ids_many : length (typing_in kinds ids) ≡ length ns = length-map ids h ∙ long in
      let root_ks : f (length ns - 1) ≡ length ks - 1 = root ∙ ap (λ (x : ℕ). x - 1) (many ∙ sym ks_many) in
      let merged = classes_merge ns (typing_in kinds ids) ks places along count ids_many root_ks in
      let shared = classes_shared ns (typing_in kinds ids) ks places along
      (differ_along h keys differ
      (λ i j x y x_is y_is e.
      let a = arrow_from ns ids keys places all count long i x x_is in
      let b = arrow_from ns ids keys places all count long j y y_is in
      told.same a.0 b.0 x.arrow y.arrow a.1 b.1 e)) in
      let nodes_same = nodes_along h keys in
      let arrows_same = arrows_along h keys in
      record {
        placed = more;
        merged = subst (λ (us : Typing). IsMerged ns (typing_in kinds ids) (nodes_in keys) us f) arrows_same
            (subst (λ (ms : List Node). IsMerged ns (typing_in kinds ids) ms (arrows_in ks) f) nodes_same merged);
        shared = subst (λ (us : Typing). IsShared (nodes_in keys) us) arrows_same (subst (λ (ms : List Node). IsShared ms (arrows_in ks)) nodes_same shared);
        count = length-map (arrows_in keys) h ∙ length-map keys (λ (x : Key (Option NodeArrow)). x.arrow) ∙ sym many;
        in_order = in_order;
      }
