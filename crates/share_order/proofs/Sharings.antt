-- Whether nodes are told apart by their own keys.
use Rattle.std.proofs.Common.{◌≡◌, refl, ap, sym, ◌∙◌, ℕ, ◌+◌, ◌<◌, ◌≤◌, List, [], ◌∷◌, ◌++◌, length, Option, Some, arith, length-append}
use Rattle.std.specs.Prelude.{slice_get}
use Rattle.simplicity.specs.Types.{Kind}
use Rattle.simplicity.specs.Nodes as node
use Rattle.simplicity.specs.Nodes.{Node}
use Rattle.simplicity.specs.Typing.{Arrow}
use Rattle.simplicity.specs.Shared.{AreSame, IsShared}
use Rattle.sharing.proofs.Merging.{within_of, there_at}
use Rattle.sharing.proofs.Merged.{Split, Less, More, split}
use Rattle.infer_cells.specs.Typings.{arrow_in, typing_in}
use Rattle.infer_cells.specs.declared.typing.NodeArrow.{NodeArrow}
use Rattle.share_order.specs.Keys.{Key, number_for, own_key, KeysDiffer}
use Rattle.share_order.specs.Told.{AreTold}
use Rattle.share_order.specs.Refusals.{IsFirstEqual}
use Rattle.share_order.proofs.Classing.{Grows, Old, New, get_map, number_plain, grown_front, grown_there, at_or_before}

abbrev Ids : Type 0
Ids = List (Option NodeArrow)

abbrev IdKey : Type 0
IdKey = Key (Option NodeArrow)

-- the keys are those of the first nodes
pub record OwnKeys (ns : List Node) (ids : Ids) (k : ℕ) (keys : List IdKey) : Type 0 where
  pub count : length keys ≡ k
  pub each : (i : ℕ) (n : Node) (a : Option NodeArrow) → i < k → slice_get ns i ≡ Some n → slice_get ids i ≡ Some a → slice_get keys i ≡ Some (own_key i n a)

pub no_keys : (ns : List Node) (ids : Ids) → OwnKeys ns ids 0 []
no_keys ns ids = record { count = refl; each = λ i n a l. absurd (omega arith) }

-- a key that is new
pub own_next : (ns : List Node) (ids : Ids) (k c : ℕ) (keys : List IdKey) (n : Node) (a : Option NodeArrow) (more : List IdKey) → OwnKeys ns ids k keys → slice_get ns k ≡ Some n → slice_get ids k ≡ Some a →
    Grows keys (own_key k n a) c more → k ≤ c → OwnKeys ns ids (k + 1) more
own_next ns ids k c keys n a _ own n_is a_is (Old h) l = let inside = within_of keys c (own_key k n a) h in let count = own.count in absurd (omega (arith, inside, count, l))
own_next ns ids k c keys n a _ own n_is a_is (New e) l =
    let count = own.count in
    let grows : Grows keys (own_key k n a) c (keys ++ own_key k n a ∷ []) = New e in
    let at : c ≡ k = e ∙ count in
    record {
      count = simp length-append (omega (arith, count));
      each = λ i m b h m_is b_is.
          at_or_before i k (omega (arith, h))
          (λ g. grown_front keys (keys ++ own_key k n a ∷ []) (own_key k n a) (own_key i m b) c i grows (own.each i m b g m_is b_is))
          (λ g.
          let node_same : Some n ≡ Some m = sym n_is ∙ ap (slice_get ns) (sym g) ∙ m_is in
          let arrow_same : Some a ≡ Some b = sym a_is ∙ ap (slice_get ids) (sym g) ∙ b_is in
          let p : n ≡ m = cc in
          let q : a ≡ b = cc in
          ap (slice_get (keys ++ own_key k n a ∷ [])) (g ∙ sym at) ∙ grown_there keys (keys ++ own_key k n a ∷ []) (own_key k n a) c grows
          ∙ ap (λ (x : Node). Some (own_key k x a)) p ∙ ap (λ (x : Option NodeArrow). Some (own_key k m x)) q ∙ ap (λ (x : ℕ). Some (own_key x m b)) (sym g));
    }

module _ (kinds : List Kind) (ns : List Node) (ids : Ids) (long : length ids ≡ length ns) (told : AreTold kinds ids) where
  abbrev ts : List (Option Arrow)
  ts = typing_in kinds ids

  -- equal nodes have equal ids
  same_ids : (i j : ℕ) (a b : Option NodeArrow) → AreSame ns ts i j → slice_get ids i ≡ Some a → slice_get ids j ≡ Some b → a ≡ b
  same_ids i j a b same a_is b_is =
      let left = get_map (arrow_in kinds) ids i a a_is in
      let right = get_map (arrow_in kinds) ids j b b_is in
      let arrows : Some (arrow_in kinds a) ≡ Some (arrow_in kinds b) = sym left ∙ same.arrows ∙ right in
      let one : arrow_in kinds a ≡ arrow_in kinds b = cc in
      told.same i j a b a_is b_is one

  -- among the first nodes none are equal
  pub none_equal : (k i j : ℕ) (keys : List IdKey) → OwnKeys ns ids k keys → KeysDiffer keys → j < k → i < j → AreSame ns ts i j → ⊥
  none_equal k i j keys own differ l below same =
      let first = within_of ns i same.same same.first in
      let second = within_of ns j same.same same.second in
      let a = there_at ids i (omega (arith, long, first)) in
      let b = there_at ids j (omega (arith, long, second)) in
      let one = same_ids i j a.0 b.0 same a.1 b.1 in
      let zero_i = number_plain same.same i same.plain in
      let zero_j = number_plain same.same j same.plain in
      let key_i = own.each i same.same a.0 (omega (arith, l, below)) same.first a.1 in
      let key_j = own.each j same.same b.0 l same.second b.1 in
      let keys_same : own_key j same.same b.0 ≡ own_key i same.same a.0 =
      ap (λ (x : Option NodeArrow). record { node = same.same; arrow = x; number = number_for same.same j }) (sym one)
      ∙ ap (λ (x : ℕ). record { node = same.same; arrow = a.0; number = x }) (zero_j ∙ sym zero_i) in
      differ i j (own_key i same.same a.0) below key_i (key_j ∙ ap Some keys_same)

  pub all_apart : (k : ℕ) (keys : List IdKey) → length ns ≤ k → OwnKeys ns ids k keys → KeysDiffer keys → IsShared ns ts
  all_apart k keys l own differ i j below same =
      let inside = within_of ns j same.same same.second in
      none_equal k i j keys own differ (omega (arith, inside, l)) below same

  not_before : (k j : ℕ) → (j < k → ⊥) → Split j k → k ≤ j
  not_before k j none (Less l) = absurd (none l)
  not_before k j none (More l) = l

  -- a key that is found
  pub first_equal : (k c : ℕ) (keys : List IdKey) (n : Node) (a : Option NodeArrow) (more : List IdKey) → OwnKeys ns ids k keys → KeysDiffer keys → slice_get ns k ≡ Some n → slice_get ids k ≡ Some a →
      Grows keys (own_key k n a) c more → c < k → IsFirstEqual ns ts c k
  first_equal k c keys n a _ own differ n_is a_is (New e) l = let count = own.count in absurd (omega (arith, e, count, l))
  first_equal k c keys n a _ own differ n_is a_is (Old h) l =
      let within = within_of ns k n n_is in
      let m = there_at ns c (omega (arith, within, l)) in
      let b = there_at ids c (omega (arith, long, within, l)) in
      let there = own.each c m.0 b.0 l m.1 b.1 in
      let keys_same : Some (own_key c m.0 b.0) ≡ Some (own_key k n a) = sym there ∙ h in
      let one : own_key c m.0 b.0 ≡ own_key k n a = cc in
      let nodes : m.0 ≡ n = ap (λ (x : IdKey). x.node) one in
      let arrows : b.0 ≡ a = ap (λ (x : IdKey). x.arrow) one in
      let numbers : number_for m.0 c ≡ number_for n k = ap (λ (x : IdKey). x.number) one in
      record {
        below = l;
        same = record {
          same = n;
          first = m.1 ∙ ap Some nodes;
          second = n_is;
          arrows = get_map (arrow_in kinds) ids c b.0 b.1 ∙ ap (λ (x : Option NodeArrow). Some (arrow_in kinds x)) arrows ∙ sym (get_map (arrow_in kinds) ids k a a_is);
          plain = λ w.
              let both : number_for node.Witness c ≡ number_for node.Witness k =
              ap (λ (x : Node). number_for x c) (sym (nodes ∙ w)) ∙ numbers ∙ ap (λ (x : Node). number_for x k) w in
              absurd (omega (arith, both, l));
        };
        second_least = λ i j below same. not_before k j (λ g. none_equal k i j keys own differ g below same) (split j k);
        first_least = λ i g same.
            let d = there_at ids i (omega (arith, long, within, g)) in
            let one_id = same_ids i k d.0 a same d.1 a_is in
            let node_same : Some n ≡ Some same.same = sym n_is ∙ same.second in
            let node_is : n ≡ same.same = cc in
            let zero_i = number_plain same.same i same.plain in
            let zero_k = number_plain same.same k same.plain in
            let key_i = own.each i same.same d.0 g same.first d.1 in
            let keys_are : own_key i same.same d.0 ≡ own_key k n a =
            ap (λ (x : Option NodeArrow). record { node = same.same; arrow = x; number = number_for same.same i }) one_id
            ∙ ap (λ (x : ℕ). record { node = same.same; arrow = a; number = x }) (zero_i ∙ sym zero_k)
            ∙ ap (λ (x : Node). own_key k x a) (sym node_is) in
            not_before c i (λ p. differ i c (own_key k n a) p (key_i ∙ ap Some keys_are) h) (split i c);
      }
