-- Trees of gathered and merged lists.
use Rattle.std.proofs.Common.{◌≡◌, refl, ap, sym, subst, ◌∙◌, ℕ, zero, suc, ◌+◌, ◌-◌, ◌<◌, true, List, [], ◌∷◌, length, Option, Some, arith, add-one}
use Rattle.std.specs.Prelude.{slice_get}
use Rattle.std.specs.List.{range_with_len, slice_index_or}
use Rattle.simplicity.specs.Terms as term
use Rattle.simplicity.specs.Terms.{Term}
use Rattle.simplicity.specs.Nodes as node
use Rattle.simplicity.specs.Nodes.{Node, Part, Tree, HiddenSide, IsShown, IsPlaced, HasRoot, count_after, part_at, tree_at, tree_of_part, case_of, part_of, parts, witness_number, tree_of_node, tree_of, Unfolds}
use Rattle.simplicity.specs.Order.{has, post_order}
use Rattle.simplicity.specs.Typing.{Typing}
use Rattle.simplicity.specs.Pruning.{renamed, picked, gathered, numbers_next, numbers_at, gathered_numbers, IsMerged}
use Rattle.simplicity.proofs.Unfold.{parts_at, shown_at, hidden_side_at}
use Rattle.simplicity.proofs.Trees.{nodes_unfold, Standing, standing}
use Rattle.sharing.specs.Images.{into, images}
use Rattle.sharing.proofs.Closed.{AllOf}
use Rattle.sharing.specs.Laws.{renumbered, ReorderingRenumbers}
use Rattle.sharing.proofs.Merging.{within_of, there_at}
use Rattle.sharing.proofs.Orderly.{position, range_get}
use Rattle.sharing.proofs.Gathering.{Within, within_rest, picked_is, Picked, pick, pick_at, place_is, picked_within, post_picked, gathered_placed, gathered_ordered, gathered_length, gathered_full, root_place, pick_carries, has_at}
use Rattle.sharing.proofs.Merged.{Kindly, IsWitness, IsPlain, kindly, witness_back, Split, Less, More, split, next_is, next_into, old_into, merged_in_order, all_of_at}

-- the tree of a node is what it unfolds to
made : (ns : List Node) (i : ℕ) (n : Node) → IsPlaced ns → slice_get ns i ≡ Some n → tree_of_node ns i ≡ tree_of_part (part_of (parts ns) (witness_number ns i) n)
made ns i n placed is = let e = parts_at ns i n placed is in rw e refl

part_is : (ns : List Node) (i : ℕ) (t : Term) → IsPlaced ns → Unfolds ns i t → tree_of_node ns i ≡ t → part_at (parts ns) i ≡ Tree t
part_is ns i t placed on e =
    let s = standing ns i t on in
    shown_at ns i s.node_there placed s.there s.shown ∙ ap Tree e

pub unfolds_one : (ns : List Node) (i : ℕ) (t : Term) → IsPlaced ns → Unfolds ns i t → tree_of_node ns i ≡ t
unfolds_one ns _ _ placed (node.UnfoldIden i is) = made ns i node.Iden placed is
unfolds_one ns _ _ placed (node.UnfoldUnit i is) = made ns i node.UnitNode placed is
unfolds_one ns _ _ placed (node.UnfoldInjl i j t is on) = made ns i (node.Injl j) placed is ∙ ap term.Injl (unfolds_one ns j t placed on)
unfolds_one ns _ _ placed (node.UnfoldInjr i j t is on) = made ns i (node.Injr j) placed is ∙ ap term.Injr (unfolds_one ns j t placed on)
unfolds_one ns _ _ placed (node.UnfoldTake i j t is on) = made ns i (node.Take j) placed is ∙ ap term.Take (unfolds_one ns j t placed on)
unfolds_one ns _ _ placed (node.UnfoldDrop i j t is on) = made ns i (node.Drop j) placed is ∙ ap term.Drop (unfolds_one ns j t placed on)
unfolds_one ns _ _ placed (node.UnfoldComp i j k s t is g h) =
    made ns i (node.Comp j k) placed is ∙ ap (λ (x : Term). term.Comp x (tree_at (parts ns) k)) (unfolds_one ns j s placed g) ∙ ap (term.Comp s) (unfolds_one ns k t placed h)
unfolds_one ns _ _ placed (node.UnfoldPair i j k s t is g h) =
    made ns i (node.Pair j k) placed is ∙ ap (λ (x : Term). term.PairTerm x (tree_at (parts ns) k)) (unfolds_one ns j s placed g) ∙ ap (term.PairTerm s) (unfolds_one ns k t placed h)
unfolds_one ns _ _ placed (node.UnfoldCase i j k s t is g h) =
    let left = part_is ns j s placed g (unfolds_one ns j s placed g) in
    let right = part_is ns k t placed h (unfolds_one ns k t placed h) in
    made ns i (node.Case j k) placed is ∙ ap (λ (p : Part). case_of p (part_at (parts ns) k)) left ∙ ap (case_of (Tree s)) right
unfolds_one ns _ _ placed (node.UnfoldAssertL i j k s e is g h) =
    let left = part_is ns j s placed g (unfolds_one ns j s placed g) in
    let right = hidden_side_at ns k e placed h in
    made ns i (node.Case j k) placed is ∙ ap (λ (p : Part). case_of p (part_at (parts ns) k)) left ∙ ap (case_of (Tree s)) right
unfolds_one ns _ _ placed (node.UnfoldAssertR i j k e t is g h) =
    let left = hidden_side_at ns j e placed g in
    let right = part_is ns k t placed h (unfolds_one ns k t placed h) in
    made ns i (node.Case j k) placed is ∙ ap (λ (p : Part). case_of p (part_at (parts ns) k)) left ∙ ap (case_of (HiddenSide e)) right
unfolds_one ns _ _ placed (node.UnfoldFail i e is) = made ns i (node.Fail e) placed is
unfolds_one ns _ _ placed (node.UnfoldWitness i is) = made ns i node.Witness placed is
unfolds_one ns _ _ placed (node.UnfoldWord i k n is) = made ns i (node.Word k n) placed is

-- a map of lists under which nodes are renamed and witnesses numbered anew: r gives the old number of a new one
pub record Carried (P : ℕ → Type 0) (f r : ℕ → ℕ) (ns ms : List Node) : Type 0 where
  pub nodes : (i : ℕ) (n : Node) → P i → slice_get ns i ≡ Some n → slice_get ms (f i) ≡ Some (renamed f n)
  pub inherit : (i : ℕ) (n : Node) → P i → slice_get ns i ≡ Some n → AllOf P (node.children n)
  pub numbers : (i : ℕ) → P i → slice_get ns i ≡ Some node.Witness → r (witness_number ms (f i)) ≡ witness_number ns i

-- a tree that is a given one once it is numbered anew
pub record Renumbers (r : ℕ → ℕ) (ms : List Node) (j : ℕ) (t : Term) : Type 0 where
  pub tree : Term
  pub unfolds : Unfolds ms j tree
  pub is : t ≡ renumbered r tree

pub carried_tree : (P : ℕ → Type 0) (f r : ℕ → ℕ) (ns ms : List Node) → Carried P f r ns ms → (i : ℕ) (t : Term) → P i → Unfolds ns i t → Renumbers r ms (f i) t
carried_tree P f r ns ms to _ _ p (node.UnfoldIden i is) = record { tree = term.Iden; unfolds = node.UnfoldIden (f i) (to.nodes i node.Iden p is); is = refl }
carried_tree P f r ns ms to _ _ p (node.UnfoldUnit i is) = record { tree = term.UnitTerm; unfolds = node.UnfoldUnit (f i) (to.nodes i node.UnitNode p is); is = refl }
carried_tree P f r ns ms to _ _ p (node.UnfoldInjl i j t is on) =
    let a = carried_tree P f r ns ms to j t (to.inherit i (node.Injl j) p is).0 on in
    record { tree = term.Injl a.tree; unfolds = node.UnfoldInjl (f i) (f j) a.tree (to.nodes i (node.Injl j) p is) a.unfolds; is = ap term.Injl a.is }
carried_tree P f r ns ms to _ _ p (node.UnfoldInjr i j t is on) =
    let a = carried_tree P f r ns ms to j t (to.inherit i (node.Injr j) p is).0 on in
    record { tree = term.Injr a.tree; unfolds = node.UnfoldInjr (f i) (f j) a.tree (to.nodes i (node.Injr j) p is) a.unfolds; is = ap term.Injr a.is }
carried_tree P f r ns ms to _ _ p (node.UnfoldTake i j t is on) =
    let a = carried_tree P f r ns ms to j t (to.inherit i (node.Take j) p is).0 on in
    record { tree = term.Take a.tree; unfolds = node.UnfoldTake (f i) (f j) a.tree (to.nodes i (node.Take j) p is) a.unfolds; is = ap term.Take a.is }
carried_tree P f r ns ms to _ _ p (node.UnfoldDrop i j t is on) =
    let a = carried_tree P f r ns ms to j t (to.inherit i (node.Drop j) p is).0 on in
    record { tree = term.Drop a.tree; unfolds = node.UnfoldDrop (f i) (f j) a.tree (to.nodes i (node.Drop j) p is) a.unfolds; is = ap term.Drop a.is }
carried_tree P f r ns ms to _ _ p (node.UnfoldComp i j k s t is g h) =
    let down = to.inherit i (node.Comp j k) p is in
    let a = carried_tree P f r ns ms to j s down.0 g in
    let b = carried_tree P f r ns ms to k t down.1.0 h in
    record { tree = term.Comp a.tree b.tree; unfolds = node.UnfoldComp (f i) (f j) (f k) a.tree b.tree (to.nodes i (node.Comp j k) p is) a.unfolds b.unfolds; is = ap (λ (x : Term). term.Comp x t) a.is ∙ ap (term.Comp (renumbered r a.tree)) b.is }
carried_tree P f r ns ms to _ _ p (node.UnfoldCase i j k s t is g h) =
    let down = to.inherit i (node.Case j k) p is in
    let a = carried_tree P f r ns ms to j s down.0 g in
    let b = carried_tree P f r ns ms to k t down.1.0 h in
    record { tree = term.Case a.tree b.tree; unfolds = node.UnfoldCase (f i) (f j) (f k) a.tree b.tree (to.nodes i (node.Case j k) p is) a.unfolds b.unfolds; is = ap (λ (x : Term). term.Case x t) a.is ∙ ap (term.Case (renumbered r a.tree)) b.is }
carried_tree P f r ns ms to _ _ p (node.UnfoldAssertL i j k s e is g h) =
    let down = to.inherit i (node.Case j k) p is in
    let a = carried_tree P f r ns ms to j s down.0 g in
    record { tree = term.AssertL a.tree e; unfolds = node.UnfoldAssertL (f i) (f j) (f k) a.tree e (to.nodes i (node.Case j k) p is) a.unfolds (to.nodes k (node.Hidden e) down.1.0 h); is = ap (λ (x : Term). term.AssertL x e) a.is }
carried_tree P f r ns ms to _ _ p (node.UnfoldAssertR i j k e t is g h) =
    let down = to.inherit i (node.Case j k) p is in
    let b = carried_tree P f r ns ms to k t down.1.0 h in
    record { tree = term.AssertR e b.tree; unfolds = node.UnfoldAssertR (f i) (f j) (f k) e b.tree (to.nodes i (node.Case j k) p is) (to.nodes j (node.Hidden e) down.0 g) b.unfolds; is = ap (term.AssertR e) b.is }
carried_tree P f r ns ms to _ _ p (node.UnfoldPair i j k s t is g h) =
    let down = to.inherit i (node.Pair j k) p is in
    let a = carried_tree P f r ns ms to j s down.0 g in
    let b = carried_tree P f r ns ms to k t down.1.0 h in
    record { tree = term.PairTerm a.tree b.tree; unfolds = node.UnfoldPair (f i) (f j) (f k) a.tree b.tree (to.nodes i (node.Pair j k) p is) a.unfolds b.unfolds; is = ap (λ (x : Term). term.PairTerm x t) a.is ∙ ap (term.PairTerm (renumbered r a.tree)) b.is }
carried_tree P f r ns ms to _ _ p (node.UnfoldFail i e is) = record { tree = term.Fail e; unfolds = node.UnfoldFail (f i) e (to.nodes i (node.Fail e) p is); is = refl }
carried_tree P f r ns ms to _ _ p (node.UnfoldWitness i is) =
    record { tree = term.Witness (witness_number ms (f i)); unfolds = node.UnfoldWitness (f i) (to.nodes i node.Witness p is); is = ap term.Witness (sym (to.numbers i p is)) }
carried_tree P f r ns ms to _ _ p (node.UnfoldWord i k n is) = record { tree = term.Word k n; unfolds = node.UnfoldWord (f i) k n (to.nodes i (node.Word k n) p is); is = refl }

-- the numbers of witnesses that are picked
pub count_renamed : (f : ℕ → ℕ) (n : Node) (w : ℕ) → count_after (renamed f n) w ≡ count_after n w
count_renamed f node.Iden w = refl
count_renamed f node.UnitNode w = refl
count_renamed f (node.Injl i) w = refl
count_renamed f (node.Injr i) w = refl
count_renamed f (node.Take i) w = refl
count_renamed f (node.Drop i) w = refl
count_renamed f (node.Comp i j) w = refl
count_renamed f (node.Case i j) w = refl
count_renamed f (node.Pair i j) w = refl
count_renamed f (node.Hidden h) w = refl
count_renamed f (node.Fail e) w = refl
count_renamed f node.Witness w = refl
count_renamed f (node.Word k n) w = refl

number_skips : (n : Node) (number k w : ℕ) (rest : List ℕ) → slice_get rest w ≡ Some k → slice_get (numbers_next (Some n) number rest) (count_after n w) ≡ Some k
number_skips node.Witness number k w rest e = rw add-one e
number_skips _ number k w rest e = e

pub picked_number : (f : ℕ → ℕ) (ns : List Node) (is : List ℕ) (k i : ℕ) → Within ns is → slice_get is k ≡ Some i → slice_get ns i ≡ Some node.Witness →
    slice_get (numbers_at ns is) (witness_number (picked f ns is) k) ≡ Some (witness_number ns i)
picked_number f ns [] k i w h e = absurd (cc)
picked_number f ns (x ∷ is) zero i w h e =
    let here : x ≡ i = cc in
    let same : slice_get ns x ≡ Some node.Witness = ap (slice_get ns) here ∙ e in
    let front : numbers_at ns (x ∷ is) ≡ witness_number ns x ∷ numbers_at ns is = ap (λ (o : Option Node). numbers_next o (witness_number ns x) (numbers_at ns is)) same in
    let none : witness_number (picked f ns (x ∷ is)) 0 ≡ 0 = none_before (picked f ns (x ∷ is)) in
    ap (slice_get (numbers_at ns (x ∷ is))) none ∙ ap (λ (l : List ℕ). slice_get l 0) front ∙ ap (λ (y : ℕ). Some (witness_number ns y)) here
  where
    none_before : (ls : List Node) → witness_number ls 0 ≡ 0
    none_before [] = refl
    none_before (l ∷ ls) = refl
picked_number f ns (x ∷ is) (suc k) i w h e =
    let m = there_at ns x (w.each 0 x refl) in
    let rest = picked_number f ns is k i (within_rest ns x is w) h e in
    let list : numbers_at ns (x ∷ is) ≡ numbers_next (Some m.0) (witness_number ns x) (numbers_at ns is) =
    ap (λ (o : Option Node). numbers_next o (witness_number ns x) (numbers_at ns is)) m.1 in
    let number : witness_number (picked f ns (x ∷ is)) (suc k) ≡ count_after m.0 (witness_number (picked f ns is) k) =
    ap (λ (l : List Node). witness_number l (suc k)) (picked_is f ns is x m.0 m.1) ∙ count_renamed f m.0 (witness_number (picked f ns is) k) in
    ap (slice_get (numbers_at ns (x ∷ is))) number ∙ ap (λ (l : List ℕ). slice_get l (count_after m.0 (witness_number (picked f ns is) k))) list
    ∙ number_skips m.0 (witness_number ns x) (witness_number ns i) (witness_number (picked f ns is) k) (numbers_at ns is) rest

index_is : (xs : List ℕ) (k x : ℕ) → slice_get xs k ≡ Some x → slice_index_or xs k 0 ≡ x
index_is [] k x h = absurd (cc)
index_is (y ∷ xs) zero x h = let same : y ≡ x = cc in same
index_is (y ∷ xs) (suc k) x h = index_is xs k x h

pub gather_carries : (ns : List Node) → IsPlaced ns → 0 < length ns →
    Carried (λ i. has i (post_order ns) ≡ true) (λ i. position i (post_order ns)) (λ k. slice_index_or (gathered_numbers ns) k 0) ns (gathered ns)
gather_carries ns placed full =
    let done = post_order ns in
    let p = post_picked ns placed full in
    let walk = pick_carries ns done p in
    record {
      nodes = λ i n h is. pick_at ns done i n p h is;
      inherit = λ i n h is. subst (AllOf (λ j. has j done ≡ true)) (Rattle.sharing.proofs.Gathering.children_are ns i n is) (walk.inherit i h);
      numbers = λ i h is.
          index_is (gathered_numbers ns) (witness_number (gathered ns) (position i done)) (witness_number ns i)
          (picked_number (λ j. position j done) ns done (position i done) i (picked_within ns done p) (Rattle.sharing.proofs.Orderly.position_there i done h) is);
    }

-- the count at the next place
count_swap : (m n : Node) (w : ℕ) → count_after m (count_after n w) ≡ count_after n (count_after m w)
count_swap node.Witness n w = witness_swap n w
  where
    witness_swap : (n : Node) (w : ℕ) → count_after n w + 1 ≡ count_after n (w + 1)
    witness_swap node.Witness w = refl
    witness_swap _ w = refl
count_swap _ n w = refl

pub number_next : (ns : List Node) (i : ℕ) (n : Node) → slice_get ns i ≡ Some n → witness_number ns (suc i) ≡ count_after n (witness_number ns i)
number_next [] i n h = absurd (cc)
number_next (m ∷ ns) zero n h = first_number m n ns (cc)
  where
    first_number : (m n : Node) (ns : List Node) → m ≡ n → count_after m (witness_number ns 0) ≡ count_after n 0
    first_number m n [] e = ap (λ (x : Node). count_after x 0) e
    first_number m n (l ∷ ns) e = ap (λ (x : Node). count_after x 0) e
number_next (m ∷ ns) (suc i) n h = ap (count_after m) (number_next ns i n h) ∙ count_swap m n (witness_number ns i)

-- merging keeps the numbers of witnesses
abbrev Keeps : (ℕ → ℕ) → List Node → List Node → ℕ → Type 0
Keeps f ns ms k = slice_get ns k ≡ Some node.Witness → witness_number ms (f k) ≡ witness_number ns k

plain_count : (n : Node) (w : ℕ) → (n ≡ node.Witness → ⊥) → count_after n w ≡ w
plain_count node.Witness w none = absurd (none refl)
plain_count _ w none = refl

record Come (k a : ℕ) (f : ℕ → ℕ) (ns ms : List Node) : Type 0 where
  each : (j : ℕ) → j < a → (i : ℕ) × (i < k) × (f i ≡ j)
  number : witness_number ms a ≡ witness_number ns k

come_by : (k a : ℕ) (f : ℕ → ℕ) (ns ms : List Node) → Come k a f ns ms → f k ≡ a → (j : ℕ) → j < suc a → Split j a → (i : ℕ) × (i < suc k) × (f i ≡ j)
come_by k a f ns ms c e j p (Less q) = let old = c.each j q in (old.0, (let l = old.1 in omega arith), old.2)
come_by k a f ns ms c e j p (More q) = (k, omega arith, omega arith)

numbers_step : (ns ms : List Node) (ts us : Typing) (f : ℕ → ℕ) (k a m : ℕ) (is : List ℕ) (n : Node) → IsMerged ns ts ms us f → slice_get ns k ≡ Some n → Come k a f ns ms →
    into f (range_with_len 0 a) (k ∷ is) ≡ range_with_len 0 m → ((b : ℕ) → Come (suc k) b f ns ms → into f (range_with_len 0 b) is ≡ range_with_len 0 m → AllOf (Keeps f ns ms) is) →
    Split (f k) a → AllOf (Keeps f ns ms) (k ∷ is)
numbers_step ns ms ts us f k a m is n merged there c e rest (Less q) =
    let old = c.each (f k) q in
    let not_witness : n ≡ node.Witness → ⊥ = λ w.
    (let first = there_at ns old.0 (let l = old.1 in let g = within_of ns k n there in omega arith) in
    let alike : renamed f first.0 ≡ node.Witness =
    (let x = merged.nodes old.0 first.0 first.1 in let y = merged.nodes k n there in let z = ap (slice_get ms) old.2 in
    let renamed_w : renamed f n ≡ node.Witness = ap (renamed f) w in cc) in
    let same : old.0 ≡ k = merged.apart old.0 k (first.1 ∙ ap Some (witness_back f first.0 alike)) (there ∙ ap Some w) old.2 in
    let l = old.1 in absurd (omega arith)) in
    let next : witness_number ns (suc k) ≡ witness_number ns k = number_next ns k n there ∙ plain_count n (witness_number ns k) not_witness in (
      λ w. absurd (not_witness (let x = there in cc)),
      rest a (record { each = λ j p. (let g = c.each j p in (g.0, (let l = g.1 in omega arith), g.2)); number = c.number ∙ sym next }) (sym (old_into f a k is q) ∙ e),
    )
numbers_step ns ms ts us f k a m is n merged there c e rest (More q) =
    let new : f k ≡ a = next_is f a m k is q e in
    let to : slice_get ms a ≡ Some (renamed f n) = ap (slice_get ms) (sym new) ∙ merged.nodes k n there in
    let next : witness_number ms (suc a) ≡ witness_number ns (suc k) =
    number_next ms a (renamed f n) to ∙ count_renamed f n (witness_number ms a) ∙ ap (count_after n) c.number ∙ sym (number_next ns k n there) in (
      λ w. ap (witness_number ms) new ∙ c.number,
      rest (suc a) (record { each = λ j p. come_by k a f ns ms c new j p (split j a); number = next }) (sym (next_into f a k is new) ∙ e),
    )

numbers_from : (ns ms : List Node) (ts us : Typing) (f : ℕ → ℕ) (k l a m : ℕ) → IsMerged ns ts ms us f → k + l ≡ length ns → Come k a f ns ms →
    into f (range_with_len 0 a) (range_with_len k l) ≡ range_with_len 0 m → AllOf (Keeps f ns ms) (range_with_len k l)
numbers_from ns ms ts us f k zero a m merged h c e = tt
numbers_from ns ms ts us f k (suc l) a m merged h c e =
    let n = there_at ns k (omega arith) in
    let more : k + 1 ≡ suc k = omega arith in
    numbers_step ns ms ts us f k a m (range_with_len (k + 1) l) n.0 merged n.1 c e
    (λ b d g. numbers_from ns ms ts us f (k + 1) l b m merged (omega arith) (subst (λ (x : ℕ). Come x b f ns ms) (sym more) d) g) (split (f k) a)

none_first : (ns ms : List Node) → witness_number ms 0 ≡ witness_number ns 0
none_first [] [] = refl
none_first [] (m ∷ ms) = refl
none_first (n ∷ ns) [] = refl
none_first (n ∷ ns) (m ∷ ms) = refl

pub merge_keeps_numbers : (ns ms : List Node) (ts us : Typing) (f : ℕ → ℕ) → IsMerged ns ts ms us f → images f (range_with_len 0 (length ns)) ≡ range_with_len 0 (length ms) → (i : ℕ) → i < length ns → Keeps f ns ms i
merge_keeps_numbers ns ms ts us f merged in_order i l =
    let all = numbers_from ns ms ts us f 0 (length ns) 0 (length ms) merged (omega arith) (record { each = λ j p. absurd (omega arith); number = none_first ns ms }) in_order in
    let same : 0 + i ≡ i = omega arith in
    all_of_at (Keeps f ns ms) (range_with_len 0 (length ns)) i i all (range_get 0 (length ns) i l ∙ ap Some same)

pub merge_carries_trees : (ns ms : List Node) (ts us : Typing) (f : ℕ → ℕ) → IsPlaced ns → IsPlaced ms → IsMerged ns ts ms us f → images f (range_with_len 0 (length ns)) ≡ range_with_len 0 (length ms) →
    Carried (λ i. i < length ns) f (λ k. k) ns ms
merge_carries_trees ns ms ts us f placed more merged in_order =
    let walk = Rattle.sharing.proofs.Merged.merge_carries ns ms ts us f placed more merged in
    record {
      nodes = λ i n p is. merged.nodes i n is;
      inherit = λ i n p is. subst (AllOf (λ j. j < length ns)) (Rattle.sharing.proofs.Gathering.children_are ns i n is) (walk.inherit i p);
      numbers = λ i p is. merge_keeps_numbers ns ms ts us f merged in_order i p is;
    }

renumbered_self : (t : Term) → renumbered (λ k. k) t ≡ t
renumbered_self term.Iden = refl
renumbered_self (term.Comp s t) = ap (λ (x : Term). term.Comp x (renumbered (λ k. k) t)) (renumbered_self s) ∙ ap (term.Comp s) (renumbered_self t)
renumbered_self term.UnitTerm = refl
renumbered_self (term.Injl t) = ap term.Injl (renumbered_self t)
renumbered_self (term.Injr t) = ap term.Injr (renumbered_self t)
renumbered_self (term.Case s t) = ap (λ (x : Term). term.Case x (renumbered (λ k. k) t)) (renumbered_self s) ∙ ap (term.Case s) (renumbered_self t)
renumbered_self (term.PairTerm s t) = ap (λ (x : Term). term.PairTerm x (renumbered (λ k. k) t)) (renumbered_self s) ∙ ap (term.PairTerm s) (renumbered_self t)
renumbered_self (term.Take t) = ap term.Take (renumbered_self t)
renumbered_self (term.Drop t) = ap term.Drop (renumbered_self t)
renumbered_self (term.Witness n) = refl
renumbered_self (term.Word k n) = refl
renumbered_self (term.AssertL s h) = ap (λ (x : Term). term.AssertL x h) (renumbered_self s)
renumbered_self (term.AssertR h t) = ap (term.AssertR h) (renumbered_self t)
renumbered_self (term.Fail e) = refl

-- a carried root's tree
pub root_tree : (P : ℕ → Type 0) (f r : ℕ → ℕ) (ns ms : List Node) (i j : ℕ) → Carried P f r ns ms → IsPlaced ns → IsPlaced ms → P i → IsShown (slice_get ns i) → f i ≡ j →
    tree_of_node ns i ≡ renumbered r (tree_of_node ms j)
root_tree P f r ns ms i j to placed more p shown e =
    let a = carried_tree P f r ns ms to i (tree_of_node ns i) p (nodes_unfold ns i placed shown) in
    a.is ∙ ap (renumbered r) (sym (unfolds_one ms (f i) a.tree more a.unfolds)) ∙ ap (λ (x : ℕ). renumbered r (tree_of_node ms x)) e

shown_stays : (f : ℕ → ℕ) (ns ms : List Node) (i j : ℕ) (n : Node) → slice_get ns i ≡ Some n → slice_get ms j ≡ Some (renamed f n) → IsShown (slice_get ns i) → IsShown (slice_get ms j)
shown_stays f ns ms i j n e g s = subst IsShown (sym g) (Rattle.sharing.proofs.Gathering.shown_renamed f n (subst IsShown e s))

pub reordering_renumbers : ReorderingRenumbers
reordering_renumbers ns ms us places root placed rooted re =
    let more = re.canonical.placed in
    let full = rooted.1 in
    let g = gathered ns in
    let done = post_order ns in
    let p = post_picked ns placed full in
    let g_placed = gathered_placed ns placed full in
    let g_full = gathered_full ns placed full in
    let r = λ (k : ℕ). slice_index_or (gathered_numbers ns) k 0 in
    let last = root_place ns placed full in
    let had : has (length ns - 1) done ≡ true = has_at done (length done - 1) (length ns - 1) last.0 in
    let goes : position (length ns - 1) done ≡ length g - 1 =
    place_is ns done (length done - 1) (length ns - 1) p last.0 ∙ ap (λ (x : ℕ). x - 1) (sym (gathered_length ns placed full)) in
    let first = root_tree (λ i. has i done ≡ true) (λ i. position i done) r ns g (length ns - 1) (length g - 1) (gather_carries ns placed full) placed g_placed had rooted.0 goes in
    let in_order = merged_in_order g ms re.typing us re.place g_placed more g_full re.merged (gathered_ordered ns placed full) re.canonical.ordered in
    let n = there_at ns (length ns - 1) (omega arith) in
    let g_there : slice_get g (length g - 1) ≡ Some (renamed (λ i. position i done) n.0) = ap (slice_get g) (sym goes) ∙ pick_at ns done (length ns - 1) n.0 p had n.1 in
    let g_shown : IsShown (slice_get g (length g - 1)) = shown_stays (λ i. position i done) ns g (length ns - 1) (length g - 1) n.0 n.1 g_there rooted.0 in
    let second = root_tree (λ i. i < length g) re.place (λ k. k) g ms (length g - 1) (length ms - 1) (merge_carries_trees g ms re.typing us re.place g_placed more re.merged in_order)
    g_placed more (omega arith) g_shown re.merged.root in
    first ∙ ap (renumbered r) (second ∙ renumbered_self (tree_of ms))
