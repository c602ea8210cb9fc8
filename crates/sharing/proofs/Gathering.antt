-- What the root reaches, in the order of its ends, is a placed list in its order.
use Rattle.std.proofs.Common.{◌≡◌, refl, ap, sym, subst, ◌∙◌, ℕ, zero, suc, ◌+◌, ◌-◌, ◌<◌, ◌≤◌, Bool, true, false, List, [], ◌∷◌, ◌++◌, length, take, map, Option, Some, None, arith, append_assoc, length-append}
use Rattle.std.specs.Prelude.{slice_get, nat_eq}
use Rattle.std.specs.List.{range_with_len}
use Rattle.simplicity.specs.Nodes as node
use Rattle.simplicity.specs.Nodes.{Node, AreUnder, children, IsShown, AreCaseSides, CanFollow, PlacedAfter, IsPlaced}
use Rattle.simplicity.specs.Order.{has, children_of, children_at, post_order, IsOrdered}
use Rattle.simplicity.specs.Pruning.{renamed, picked_next, picked, gathered}
use Rattle.simplicity.proofs.Unfold.{get_of_take, follows_at, children_under}
use Rattle.sharing.proofs.Closed.{IsDown, AllHad, AllOf}
use Rattle.sharing.proofs.Merging.{within_of, there_at}
use Rattle.sharing.proofs.Walks.{Carries, post_order_carried}
use Rattle.sharing.proofs.Orderly.{Orderly, post_orderly, post_order_last, position, position_is, position_there, found, images_range}

-- children of a placed list stand below their parents
pub down_of : (ns : List Node) → IsPlaced ns → IsDown ns
down_of ns placed i = down_by (slice_get ns i) refl
  where
    down_by : (o : Option Node) → slice_get ns i ≡ o → AreUnder i (children_of o)
    down_by None e = tt
    down_by (Some n) e = children_under ns i n (follows_at ns i n placed e)

pub children_are : (ns : List Node) (i : ℕ) (n : Node) → slice_get ns i ≡ Some n → children_at ns i ≡ children n
children_are ns i n e = ap children_of e

pub children_renamed : (f : ℕ → ℕ) (n : Node) → children (renamed f n) ≡ map f (children n)
children_renamed f node.Iden = refl
children_renamed f node.UnitNode = refl
children_renamed f (node.Injl i) = refl
children_renamed f (node.Injr i) = refl
children_renamed f (node.Take i) = refl
children_renamed f (node.Drop i) = refl
children_renamed f (node.Comp i j) = refl
children_renamed f (node.Case i j) = refl
children_renamed f (node.Pair i j) = refl
children_renamed f (node.Hidden h) = refl
children_renamed f (node.Fail e) = refl
children_renamed f node.Witness = refl
children_renamed f (node.Word k n) = refl

-- a list is placed where each node may follow those before it
placed_by : (before ns : List Node) → ((i : ℕ) (n : Node) → slice_get ns i ≡ Some n → CanFollow (before ++ take i ns) n) → PlacedAfter before ns
placed_by before [] on = tt
placed_by before (n ∷ ns) on = (
  subst (λ (l : List Node). CanFollow l n) (append_nil before) (on 0 n refl),
  placed_by (before ++ n ∷ []) ns
      (λ i m h. subst (λ (l : List Node). CanFollow l m) (sym (append_assoc before (n ∷ []) (take i ns))) (on (suc i) m h)),
)
  where
    append_nil : (xs : List Node) → xs ++ [] ≡ xs
    append_nil [] = refl
    append_nil (x ∷ xs) = ap (λ (l : List Node). x ∷ l) (append_nil xs)

pub placed_from : (ns : List Node) → ((i : ℕ) (n : Node) → slice_get ns i ≡ Some n → CanFollow (take i ns) n) → IsPlaced ns
placed_from ns on = placed_by [] ns on

-- a node may follow the images of those that it followed
pub shown_renamed : (f : ℕ → ℕ) (n : Node) → IsShown (Some n) → IsShown (Some (renamed f n))
shown_renamed f (node.Hidden h) s = elim s [ ]
shown_renamed f node.Iden s = tt
shown_renamed f node.UnitNode s = tt
shown_renamed f (node.Injl i) s = tt
shown_renamed f (node.Injr i) s = tt
shown_renamed f (node.Take i) s = tt
shown_renamed f (node.Drop i) s = tt
shown_renamed f (node.Comp i j) s = tt
shown_renamed f (node.Case i j) s = tt
shown_renamed f (node.Pair i j) s = tt
shown_renamed f (node.Fail e) s = tt
shown_renamed f node.Witness s = tt
shown_renamed f (node.Word k n) s = tt

abbrev pub Onward : (ℕ → ℕ) → List Node → List Node → ℕ → Type 0
Onward f xs ys c = (m : Node) → slice_get xs c ≡ Some m → slice_get ys (f c) ≡ Some (renamed f m)

shown_by : (f : ℕ → ℕ) (xs ys : List Node) (c : ℕ) (o : Option Node) → slice_get xs c ≡ o → Onward f xs ys c → IsShown o → IsShown (slice_get ys (f c))
shown_by f xs ys c None e on s = elim s [ ]
shown_by f xs ys c (Some m) e on s = subst IsShown (sym (on m e)) (shown_renamed f m s)

shown_on : (f : ℕ → ℕ) (xs ys : List Node) (c : ℕ) → Onward f xs ys c → IsShown (slice_get xs c) → IsShown (slice_get ys (f c))
shown_on f xs ys c on s = shown_by f xs ys c (slice_get xs c) refl on s

sides_renamed : (f : ℕ → ℕ) (m n : Node) → AreCaseSides (Some m) (Some n) → AreCaseSides (Some (renamed f m)) (Some (renamed f n))
sides_renamed f (node.Hidden h) n s = shown_renamed f n s
sides_renamed f node.Iden n s = tt
sides_renamed f node.UnitNode n s = tt
sides_renamed f (node.Injl i) n s = tt
sides_renamed f (node.Injr i) n s = tt
sides_renamed f (node.Take i) n s = tt
sides_renamed f (node.Drop i) n s = tt
sides_renamed f (node.Comp i j) n s = tt
sides_renamed f (node.Case i j) n s = tt
sides_renamed f (node.Pair i j) n s = tt
sides_renamed f (node.Fail e) n s = tt
sides_renamed f node.Witness n s = tt
sides_renamed f (node.Word k l) n s = tt

no_right : (m : Node) → AreCaseSides (Some m) None → ⊥
no_right (node.Hidden h) s = s
no_right node.Iden s = s
no_right node.UnitNode s = s
no_right (node.Injl i) s = s
no_right (node.Injr i) s = s
no_right (node.Take i) s = s
no_right (node.Drop i) s = s
no_right (node.Comp i j) s = s
no_right (node.Case i j) s = s
no_right (node.Pair i j) s = s
no_right (node.Fail e) s = s
no_right node.Witness s = s
no_right (node.Word k l) s = s

sides_by : (f : ℕ → ℕ) (xs ys : List Node) (c d : ℕ) (o p : Option Node) → slice_get xs c ≡ o → slice_get xs d ≡ p → Onward f xs ys c → Onward f xs ys d →
    AreCaseSides o p → AreCaseSides (slice_get ys (f c)) (slice_get ys (f d))
sides_by f xs ys c d None p e g on ond s = elim s [ ]
sides_by f xs ys c d (Some m) None e g on ond s = absurd (no_right m s)
sides_by f xs ys c d (Some m) (Some n) e g on ond s =
    let left = on m e in
    let right = ond n g in
    rw (left, right) (sides_renamed f m n s)

pub follow_along : (f : ℕ → ℕ) (xs ys : List Node) (n : Node) → AllOf (Onward f xs ys) (children n) → CanFollow xs n → CanFollow ys (renamed f n)
follow_along f xs ys (node.Injl i) on h = shown_on f xs ys i on.0 h
follow_along f xs ys (node.Injr i) on h = shown_on f xs ys i on.0 h
follow_along f xs ys (node.Take i) on h = shown_on f xs ys i on.0 h
follow_along f xs ys (node.Drop i) on h = shown_on f xs ys i on.0 h
follow_along f xs ys (node.Comp i j) on h = (shown_on f xs ys i on.0 h.0, shown_on f xs ys j on.1.0 h.1)
follow_along f xs ys (node.Pair i j) on h = (shown_on f xs ys i on.0 h.0, shown_on f xs ys j on.1.0 h.1)
follow_along f xs ys (node.Case i j) on h = sides_by f xs ys i j (slice_get xs i) (slice_get xs j) refl refl on.0 on.1.0 h
follow_along f xs ys node.Iden on h = tt
follow_along f xs ys node.UnitNode on h = tt
follow_along f xs ys (node.Hidden b) on h = tt
follow_along f xs ys (node.Fail e) on h = tt
follow_along f xs ys node.Witness on h = tt
follow_along f xs ys (node.Word k l) on h = tt

-- the nodes picked, in their order
pub record Within (ns : List Node) (done : List ℕ) : Type 0 where
  pub each : (k i : ℕ) → slice_get done k ≡ Some i → i < length ns

pub picked_is : (f : ℕ → ℕ) (ns : List Node) (is : List ℕ) (i : ℕ) (n : Node) → slice_get ns i ≡ Some n → picked f ns (i ∷ is) ≡ renamed f n ∷ picked f ns is
picked_is f ns is i n e = ap (λ (o : Option Node). picked_next f o (picked f ns is)) e

pub within_rest : (ns : List Node) (i : ℕ) (is : List ℕ) → Within ns (i ∷ is) → Within ns is
within_rest ns i is w = record { each = λ k j h. w.each (suc k) j h }

pub picked_length : (f : ℕ → ℕ) (ns : List Node) (is : List ℕ) → Within ns is → length (picked f ns is) ≡ length is
picked_length f ns [] w = refl
picked_length f ns (i ∷ is) w =
    let n = there_at ns i (w.each 0 i refl) in
    ap (λ (l : List Node). length l) (picked_is f ns is i n.0 n.1) ∙ ap suc (picked_length f ns is (within_rest ns i is w))

pub picked_at : (f : ℕ → ℕ) (ns : List Node) (is : List ℕ) (k i : ℕ) (n : Node) → Within ns is → slice_get is k ≡ Some i → slice_get ns i ≡ Some n →
    slice_get (picked f ns is) k ≡ Some (renamed f n)
picked_at f ns [] k i n w h e = absurd (cc)
picked_at f ns (j ∷ is) zero i n w h e =
    let same : slice_get ns j ≡ Some n = (let s : j ≡ i = cc in ap (slice_get ns) s) ∙ e in
    ap (λ (l : List Node). slice_get l 0) (picked_is f ns is j n same)
picked_at f ns (j ∷ is) (suc k) i n w h e =
    let m = there_at ns j (w.each 0 j refl) in
    ap (λ (l : List Node). slice_get l (suc k)) (picked_is f ns is j m.0 m.1) ∙ picked_at f ns is k i n (within_rest ns j is w) h e

pub get_take : {A : Type 0} (xs : List A) (k i : ℕ) → i < k → slice_get (take k xs) i ≡ slice_get xs i
get_take xs zero i h = absurd (omega arith)
get_take [] (suc k) i h = refl
get_take (x ∷ xs) (suc k) zero h = refl
get_take (x ∷ xs) (suc k) (suc i) h = get_take xs k i (omega arith)

pub had_at : (done : List ℕ) (c : ℕ) (is : List ℕ) → AllHad done is → (P : ℕ → Type 0) → ((i : ℕ) → has i done ≡ true → P i) → AllOf P is
had_at done c [] h P on = tt
had_at done c (i ∷ is) h P on = (on i h.0, had_at done c is h.1 P on)

-- a list picked along an orderly list of indices
pub record Picked (ns : List Node) (done : List ℕ) : Type 0 where
  pub orderly : Orderly ns done
  pub placed : IsPlaced ns

pub picked_within : (ns : List Node) (done : List ℕ) → Picked ns done → Within ns done
picked_within ns done p = record { each = p.orderly.within }

pub place_is : (ns : List Node) (done : List ℕ) (k i : ℕ) → Picked ns done → slice_get done k ≡ Some i → position i done ≡ k
place_is ns done k i p h = position_is done k i h (p.orderly.once k i h)

abbrev pub pick : List Node → List ℕ → List Node
pick ns done = picked (λ i. position i done) ns done

-- an index in a front stands there
pub place_in_front : (ns : List Node) (done : List ℕ) (k c : ℕ) → Picked ns done → has c (take k done) ≡ true → (position c done < k) × (slice_get done (position c done) ≡ Some c)
place_in_front ns done k c p h =
    let at = found c (take k done) h in
    let there = get_of_take done k at.place c at.there in
    let same = place_is ns done at.place c p there.0 in
    (subst (λ (x : ℕ). x < k) (sym same) there.1, subst (λ (x : ℕ). slice_get done x ≡ Some c) (sym same) there.0)

pub pick_at : (ns : List Node) (done : List ℕ) (i : ℕ) (n : Node) → Picked ns done → has i done ≡ true → slice_get ns i ≡ Some n →
    slice_get (pick ns done) (position i done) ≡ Some (renamed (λ j. position j done) n)
pick_at ns done i n p h e =
    picked_at (λ j. position j done) ns done (position i done) i n (picked_within ns done p) (position_there i done h) e

pub pick_placed : (ns : List Node) (done : List ℕ) → Picked ns done → IsPlaced (pick ns done)
pick_placed ns done p =
    let f = λ (j : ℕ). position j done in
    placed_from (pick ns done)
    (λ k m h.
    let inside = within_of (pick ns done) k m h in
    let count = picked_length f ns done (picked_within ns done p) in
    let i = there_at done k (omega arith) in
    let n = there_at ns i.0 (p.orderly.within k i.0 i.1) in
    let is = picked_at f ns done k i.0 n.0 (picked_within ns done p) i.1 n.1 in
    let same : renamed f n.0 ≡ m = cc in
    let follows = follows_at ns i.0 n.0 p.placed n.1 in
    let had : AllHad (take k done) (children n.0) = subst (AllHad (take k done)) (children_are ns i.0 n.0 n.1) (p.orderly.after k i.0 i.1) in
    let on = had_at (take k done) 0 (children n.0) had (Onward f (take i.0 ns) (take k (pick ns done)))
    (λ c g l e.
    let at = place_in_front ns done k c p g in
    let there = get_of_take ns i.0 c l e in
    get_take (pick ns done) k (position c done) at.0 ∙ picked_at f ns done (position c done) c l (picked_within ns done p) at.1 there.0) in
    subst (CanFollow (take k (pick ns done))) same (follow_along f (take i.0 ns) (take k (pick ns done)) n.0 on follows))

front_had : (done : List ℕ) (k c : ℕ) → has c (take k done) ≡ true → has c done ≡ true
front_had [] zero c h = h
front_had [] (suc k) c h = h
front_had (x ∷ xs) zero c h = absurd (cc)
front_had (x ∷ xs) (suc k) c h =
    Rattle.sharing.proofs.Walks.or_case (nat_eq c x) (has c (take k xs)) h
    (λ e. Rattle.sharing.proofs.Walks.or_left (nat_eq c x) (has c xs) e)
    (λ e. Rattle.sharing.proofs.Walks.or_right (nat_eq c x) (has c xs) (front_had xs k c e))

pub pick_carries : (ns : List Node) (done : List ℕ) → Picked ns done → Carries (λ i. has i done ≡ true) (λ i. position i done) ns (pick ns done)
pick_carries ns done p = record {
  below = down_of ns p.placed;
  under = down_of (pick ns done) (pick_placed ns done p);
  children = λ i h.
      let at = found i done h in
      let n = there_at ns i (p.orderly.within at.place i at.there) in
      children_are (pick ns done) (position i done) (renamed (λ j. position j done) n.0) (pick_at ns done i n.0 p h n.1)
      ∙ children_renamed (λ j. position j done) n.0
      ∙ ap (λ (is : List ℕ). map (λ j. position j done) is) (sym (children_are ns i n.0 n.1));
  inherit = λ i h.
      let at = found i done h in
      had_at (take at.place done) 0 (children_at ns i) (p.orderly.after at.place i at.there) (λ j. has j done ≡ true) (λ c g. front_had done at.place c g);
}

pub post_picked : (ns : List Node) → IsPlaced ns → 0 < length ns → Picked ns (post_order ns)
post_picked ns placed h = record { orderly = post_orderly ns (down_of ns placed) h; placed = placed }

pub last_get : (xs : List ℕ) (y : ℕ) → slice_get (xs ++ y ∷ []) (length xs) ≡ Some y
last_get [] y = refl
last_get (x ∷ xs) y = last_get xs y

-- the root is the last that is picked
pub root_place : (ns : List Node) → IsPlaced ns → 0 < length ns →
    (slice_get (post_order ns) (length (post_order ns) - 1) ≡ Some (length ns - 1)) × (0 < length (post_order ns))
root_place ns placed h =
    let last = post_order_last ns (down_of ns placed) h in
    let count : length (post_order ns) ≡ suc (length last.0) = ap (λ (l : List ℕ). length l) last.1 ∙ simp length-append (omega arith) in
    let minus : length (post_order ns) - 1 ≡ length last.0 = omega arith in (
      ap (λ (l : List ℕ). slice_get l (length (post_order ns) - 1)) last.1 ∙ ap (slice_get (last.0 ++ (length ns - 1) ∷ [])) minus ∙ last_get last.0 (length ns - 1),
      omega arith,
    )

pub has_at : (xs : List ℕ) (k i : ℕ) → slice_get xs k ≡ Some i → has i xs ≡ true
has_at [] k i h = absurd (cc)
has_at (x ∷ xs) zero i h =
    let same : i ≡ x = cc in
    Rattle.sharing.proofs.Walks.or_left (nat_eq i x) (has i xs) (Rattle.std.proofs.Common.eq-eqb i x same)
has_at (x ∷ xs) (suc k) i h = Rattle.sharing.proofs.Walks.or_right (nat_eq i x) (has i xs) (has_at xs k i h)

pub gathered_placed : (ns : List Node) → IsPlaced ns → 0 < length ns → IsPlaced (gathered ns)
gathered_placed ns placed h = pick_placed ns (post_order ns) (post_picked ns placed h)

pub gathered_length : (ns : List Node) → IsPlaced ns → 0 < length ns → length (gathered ns) ≡ length (post_order ns)
gathered_length ns placed h =
    picked_length (λ i. position i (post_order ns)) ns (post_order ns) (picked_within ns (post_order ns) (post_picked ns placed h))

pub gathered_ordered : (ns : List Node) → IsPlaced ns → 0 < length ns → IsOrdered (gathered ns)
gathered_ordered ns placed h =
    let done = post_order ns in
    let p = post_picked ns placed h in
    let root = root_place ns placed h in
    let count = gathered_length ns placed h in
    let root_had : has (length ns - 1) done ≡ true = has_at done (length done - 1) (length ns - 1) root.0 in
    let root_goes : position (length ns - 1) done ≡ length (gathered ns) - 1 =
    place_is ns done (length done - 1) (length ns - 1) p root.0 ∙ ap (λ (x : ℕ). x - 1) (sym count) in
    post_order_carried (λ i. has i done ≡ true) (λ i. position i done) ns (gathered ns) (pick_carries ns done p) root_had h
    (let more = root.1 in omega arith) root_goes
    ∙ images_range (λ i. position i done) done (λ k i g. place_is ns done k i p g)
    ∙ ap (λ (x : ℕ). range_with_len 0 x) (sym count)

pub gathered_full : (ns : List Node) → IsPlaced ns → 0 < length ns → 0 < length (gathered ns)
gathered_full ns placed h =
    let count = gathered_length ns placed h in
    let some = (root_place ns placed h).1 in
    omega arith
