-- One more node of what the root reaches.
use Rattle.std.proofs.Common.{◌≡◌, refl, ap, sym, subst, ◌∙◌, ℕ, zero, suc, ◌+◌, ◌<◌, ◌≤◌, List, [], ◌∷◌, ◌++◌, length, take, set, Some, arith}
use Rattle.std.specs.Prelude.{slice_get}
use Rattle.std.proofs.lemmas.List.{get_or-set_same, get_or-set_other, take_all}
use Rattle.simplicity.specs.Nodes as node
use Rattle.simplicity.specs.Nodes.{Node, AreUnder, children, CanFollow, IsPlaced}
use Rattle.simplicity.specs.Order.{post_order}
use Rattle.simplicity.specs.Pruning.{renamed, gathered}
use Rattle.simplicity.proofs.Unfold.{follows_at, children_under}
use Rattle.sharing.proofs.Closed.{AllHad, AllOf}
use Rattle.sharing.proofs.Merging.{within_of}
use Rattle.sharing.proofs.Orderly.{position}
use Rattle.sharing.proofs.Gathering.{Picked, post_picked, picked_within, picked_at, place_in_front, children_are, had_at, has_at, get_take, gathered_placed, gathered_length}
use Rattle.share_order.specs.Keys.{place_at}
use Rattle.share_order.proofs.Classing.{at_or_before}
use Rattle.share_order.proofs.Placed.{under_more}

-- the new places of the first of these
pub record Placing (done : List ℕ) (k : ℕ) (places : List ℕ) : Type 0 where
  pub each : (j i : ℕ) → j < k → slice_get done j ≡ Some i → place_at places i ≡ j

renamed_alike : (f h : ℕ → ℕ) (n : Node) → AllOf (λ c. f c ≡ h c) (children n) → renamed f n ≡ renamed h n
renamed_alike f h (node.Injl i) on = ap node.Injl on.0
renamed_alike f h (node.Injr i) on = ap node.Injr on.0
renamed_alike f h (node.Take i) on = ap node.Take on.0
renamed_alike f h (node.Drop i) on = ap node.Drop on.0
renamed_alike f h (node.Comp i j) on = ap (λ (x : ℕ). node.Comp x (f j)) on.0 ∙ ap (node.Comp (h i)) on.1.0
renamed_alike f h (node.Case i j) on = ap (λ (x : ℕ). node.Case x (f j)) on.0 ∙ ap (node.Case (h i)) on.1.0
renamed_alike f h (node.Pair i j) on = ap (λ (x : ℕ). node.Pair x (f j)) on.0 ∙ ap (node.Pair (h i)) on.1.0
renamed_alike f h node.Iden on = refl
renamed_alike f h node.UnitNode on = refl
renamed_alike f h (node.Hidden b) on = refl
renamed_alike f h (node.Fail e) on = refl
renamed_alike f h node.Witness on = refl
renamed_alike f h (node.Word k n) on = refl

take_one : {A : Type 0} (xs : List A) (k : ℕ) (x : A) → slice_get xs k ≡ Some x → take (suc k) xs ≡ take k xs ++ x ∷ []
take_one [] k x h = absurd (cc)
take_one (y ∷ xs) zero x h = let same : y ≡ x = cc in ap (λ (z : _). z ∷ []) same
take_one (y ∷ xs) (suc k) x h = ap (λ (l : List _). y ∷ l) (take_one xs k x h)

pub taken_next : {A : Type 0} (xs list : List A) (k : ℕ) (x : A) → list ≡ take k xs → slice_get xs k ≡ Some x → list ++ x ∷ [] ≡ take (k + 1) xs
taken_next xs list k x e is =
    let more : k + 1 ≡ suc k = omega arith in
    ap (λ (l : List _). l ++ x ∷ []) e ∙ sym (take_one xs k x is) ∙ ap (λ (j : ℕ). take j xs) (sym more)

pub none_placed : (done places : List ℕ) → Placing done 0 places
none_placed done places = record { each = λ j i l is. absurd (omega arith) }

module _ (ns : List Node) (placed : IsPlaced ns) (full : 0 < length ns) where
  picked : Picked ns (post_order ns)
  picked = post_picked ns placed full

  -- the node that is gathered next
  pub gathered_next : (k i : ℕ) (n : Node) (places : List ℕ) → slice_get (post_order ns) k ≡ Some i → slice_get ns i ≡ Some n → Placing (post_order ns) k places →
      slice_get (gathered ns) k ≡ Some (renamed (place_at places) n)
  gathered_next k i n places i_is n_is before =
      let done = post_order ns in
      let pos = λ (j : ℕ). position j done in
      let had : AllHad (take k done) (children n) = subst (AllHad (take k done)) (children_are ns i n n_is) (picked.orderly.after k i i_is) in
      let alike = renamed_alike pos (place_at places) n
      (had_at (take k done) 0 (children n) had (λ c. pos c ≡ place_at places c)
      (λ c g. let at = place_in_front ns done k c picked g in sym (before.each (pos c) c at.0 at.1))) in
      picked_at pos ns done k i n (picked_within ns done picked) i_is n_is ∙ ap Some alike

  pub next_follows : (list : List Node) (k : ℕ) (n : Node) → list ≡ take k (gathered ns) → slice_get (gathered ns) k ≡ Some n → CanFollow list n
  next_follows list k n e is = subst (λ (l : List Node). CanFollow l n) (sym e) (follows_at (gathered ns) k n (gathered_placed ns placed full) is)

  pub all_gathered : (list : List Node) (k : ℕ) → list ≡ take k (gathered ns) → length (post_order ns) ≤ k → list ≡ gathered ns
  all_gathered list k e l = let count = gathered_length ns placed full in e ∙ take_all k (gathered ns) (omega (arith, count, l))

  pub node_within : (k i : ℕ) → slice_get (post_order ns) k ≡ Some i → i < length ns
  node_within k i is = picked.orderly.within k i is

  pub children_within : (i : ℕ) (n : Node) → slice_get ns i ≡ Some n → AreUnder (length ns) (children n)
  children_within i n is =
      let inside = within_of ns i n is in
      under_more i (length ns) (children n) (omega (arith, inside)) (children_under ns i n (follows_at ns i n placed is))

  -- an index stands once
  apart : (k j i h : ℕ) → j < k → slice_get (post_order ns) k ≡ Some i → slice_get (post_order ns) j ≡ Some h → h ≡ i → ⊥
  apart k j i h l i_is h_is same =
      let done = post_order ns in
      let there : slice_get (take k done) j ≡ Some i = get_take done k j l ∙ h_is ∙ ap Some same in
      let twice = has_at (take k done) j i there in
      let once = picked.orderly.once k i i_is in
      absurd (cc)

  pub place_next : (k i : ℕ) (places : List ℕ) → slice_get (post_order ns) k ≡ Some i → length places ≡ length ns → Placing (post_order ns) k places →
      Placing (post_order ns) (k + 1) (set places i k)
  place_next k i places i_is long before = record {
    each = λ j h l h_is.
        at_or_before j k (omega (arith, l))
        (λ m. get_or-set_other places i h k 0 (apart k j i h m i_is h_is) ∙ before.each j h m h_is)
        (λ e.
        let here : Some h ≡ Some i = sym h_is ∙ ap (slice_get (post_order ns)) e ∙ i_is in
        let same : h ≡ i = cc in
        let inside = node_within k i i_is in
        ap (place_at (set places i k)) same ∙ get_or-set_same places i k 0 (omega (arith, inside, long)) ∙ sym e);
  }

  pub gather_follows : (k i : ℕ) (n m : Node) (list : List Node) (places : List ℕ) → slice_get (post_order ns) k ≡ Some i → slice_get ns i ≡ Some n →
      Placing (post_order ns) k places → m ≡ renamed (place_at places) n → list ≡ take k (gathered ns) → CanFollow list m
  gather_follows k i n m list places i_is n_is before m_is list_is =
      next_follows list k m list_is (gathered_next k i n places i_is n_is before ∙ ap Some (sym m_is))

  pub gather_step : (k i : ℕ) (n m : Node) (list : List Node) (places : List ℕ) → slice_get (post_order ns) k ≡ Some i → slice_get ns i ≡ Some n →
      Placing (post_order ns) k places → m ≡ renamed (place_at places) n → list ≡ take k (gathered ns) → list ++ m ∷ [] ≡ take (k + 1) (gathered ns)
  gather_step k i n m list places i_is n_is before m_is list_is =
      taken_next (gathered ns) list k m list_is (gathered_next k i n places i_is n_is before ∙ ap Some (sym m_is))
