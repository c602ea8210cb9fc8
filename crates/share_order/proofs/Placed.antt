-- The nodes of classes are a placed list.
use Rattle.std.proofs.Common.{◌≡◌, sym, subst, ℕ, ◌<◌, ◌≤◌, List, [], ◌∷◌, ◌++◌, length, take, Some, arith, append_assoc}
use Rattle.std.specs.Prelude.{slice_get}
use Rattle.std.proofs.lemmas.List.{map-append, append-nil}
use Rattle.simplicity.specs.Nodes.{Node, AreUnder, children, CanFollow, PlacedAfter, IsPlaced}
use Rattle.simplicity.specs.Pruning.{renamed}
use Rattle.simplicity.proofs.Unfold.{follows_at, children_under, get_of_take}
use Rattle.sharing.proofs.Closed.{AllOf}
use Rattle.sharing.proofs.Merging.{there_at}
use Rattle.sharing.proofs.Gathering.{follow_along}
use Rattle.share_order.specs.Keys.{Key, place_at, key_for, nodes_in, Classes}
use Rattle.share_order.proofs.Classing.{Grows, Old, New, get_map}

pub placed_last : (before xs : List Node) (n : Node) → PlacedAfter before xs → CanFollow (before ++ xs) n → PlacedAfter before (xs ++ n ∷ [])
placed_last before [] n p f = (subst (λ (l : List Node). CanFollow l n) (append-nil before) f, tt)
placed_last before (x ∷ xs) n p f = (p.0, placed_last (before ++ x ∷ []) xs n p.1 (subst (λ (l : List Node). CanFollow l n) (sym (append_assoc before (x ∷ []) xs)) f))

pub all_below : (P : ℕ → Type 0) (n : ℕ) (is : List ℕ) → AreUnder n is → ((j : ℕ) → j < n → P j) → AllOf P is
all_below P n [] u on = tt
all_below P n (i ∷ is) u on = (on i u.0, all_below P n is u.1 on)

pub under_more : (i n : ℕ) (is : List ℕ) → i ≤ n → AreUnder i is → AreUnder n is
under_more i n [] l u = tt
under_more i n (j ∷ is) l u = (omega (arith, u.0), under_more i n is l u.1)

module _ {A : Type 0} (ns : List Node) (arrows : List A) (placed : IsPlaced ns) (long : length arrows ≡ length ns) where
  can_follow : (keys : List (Key A)) (places : List ℕ) (n : Node) → Classes A ns arrows keys places → slice_get ns (length places) ≡ Some n →
      CanFollow (nodes_in keys) (renamed (place_at places) n)
  can_follow keys places n all is =
      let k = length places in
      let follows = follows_at ns k n placed is in
      follow_along (place_at places) (take k ns) (nodes_in keys) n
      (all_below (λ c. (m : Node) → slice_get (take k ns) c ≡ Some m → slice_get (nodes_in keys) (place_at places c) ≡ Some (renamed (place_at places) m))
      k (children n) (children_under ns k n follows)
      (λ c l m e.
      let there = (get_of_take ns k c m e).0 in
      let inside = all.within in
      let a = there_at arrows c (omega (arith, long, inside, l)) in
      get_map (λ (x : Key A). x.node) keys (place_at places c) (key_for (place_at places) c m a.0) (all.each c m a.0 l there a.1)))
      follows

  pub placed_step : (keys : List (Key A)) (places : List ℕ) (c : ℕ) (n : Node) (a : A) (more : List (Key A)) → Classes A ns arrows keys places → slice_get ns (length places) ≡ Some n →
      Grows keys (key_for (place_at places) (length places) n a) c more → IsPlaced (nodes_in keys) → IsPlaced (nodes_in more)
  placed_step keys places c n a _ all is (Old h) before = before
  placed_step keys places c n a _ all is (New e) before =
      let key = key_for (place_at places) (length places) n a in
      subst IsPlaced (sym (map-append (λ (x : Key A). x.node) keys (key ∷ [])))
      (placed_last [] (nodes_in keys) (renamed (place_at places) n) before (can_follow keys places n all is))
