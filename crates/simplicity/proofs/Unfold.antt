-- Unfolding a placed list: each node's part is made of those of its children.
use Rattle.std.proofs.Common.{◌≡◌, refl, ap, sym, subst, ◌∙◌, ℕ, zero, suc, ◌+◌, ◌<◌, List, [], ◌∷◌, ◌++◌, length, take, Option, Some, None, arith, append_assoc, length-append}
use Rattle.std.proofs.lemmas.List.{append-nil}
use Rattle.std.specs.Prelude.{slice_get}
use Rattle.simplicity.specs.Terms.{Term}
use Rattle.simplicity.specs.Nodes as node
use Rattle.simplicity.specs.Nodes.{AreUnder, Node, Part, Tree, HiddenSide, children, IsShown, IsHidden, AreCaseSides, CanFollow, PlacedAfter, IsPlaced, part_at, tree_at, tree_of_part, case_of, part_of, parts_from, parts, count_after, witness_number, tree_of_node, Unfolds}

-- an element of a list stays when the list grows
pub get_front : {A : Type 0} (xs ys : List A) (i : ℕ) → i < length xs → slice_get (xs ++ ys) i ≡ slice_get xs i
get_front [] ys i h = absurd (omega arith)
get_front (x ∷ xs) ys zero h = refl
get_front (x ∷ xs) ys (suc i) h = get_front xs ys i (omega arith)

pub get_last : {A : Type 0} (xs : List A) (y : A) → slice_get (xs ++ y ∷ []) (length xs) ≡ Some y
get_last [] y = refl
get_last (x ∷ xs) y = get_last xs y

-- an element of a list's front is one of the list
pub get_of_take : {A : Type 0} (xs : List A) (k i : ℕ) (x : A) → slice_get (take k xs) i ≡ Some x → (slice_get xs i ≡ Some x) × (i < k)
get_of_take xs zero i x h = absurd (cc)
get_of_take [] (suc k) i x h = absurd (cc)
get_of_take (y ∷ xs) (suc k) zero x h = (h, omega arith)
get_of_take (y ∷ xs) (suc k) (suc i) x h =
    let rest = get_of_take xs k i x h in
    (rest.0, omega arith)

-- parts that are there stay
parts_front : (ps : List Part) (w : ℕ) (ns : List Node) (i : ℕ) → i < length ps → slice_get (parts_from ps w ns) i ≡ slice_get ps i
parts_front ps w [] i h = refl
parts_front ps w (n ∷ ns) i h =
    let more : i < length (ps ++ part_of ps w n ∷ []) = simp length-append (omega arith) in
    parts_front (ps ++ part_of ps w n ∷ []) (count_after n w) ns i more ∙ get_front ps (part_of ps w n ∷ []) i h

count_later : (n : Node) (w k : ℕ) → count_after n w + k ≡ w + count_after n k
count_later node.Witness w k = omega arith
count_later _ w k = refl

-- what a node's part is made of: the parts before it, which stay
record Made (all : List Part) (n : Node) (place number : ℕ) : Type 0 where
  before : List Part
  count : length before ≡ place
  made : slice_get all place ≡ Some (part_of before number n)
  stays : (j : ℕ) → j < place → slice_get all j ≡ slice_get before j

made_at : (all : List Part) (m n : Node) (p q w v : ℕ) → m ≡ n → p ≡ q → w ≡ v → Made all m p w → Made all n q v
made_at all m n p q w v e f g made =
    subst (λ (x : ℕ). Made all n q x) g (subst (λ (x : ℕ). Made all n x w) f (subst (λ (x : Node). Made all x p w) e made))

made_first : (ps : List Part) (w : ℕ) (m : Node) (ns : List Node) → Made (parts_from ps w (m ∷ ns)) m (length ps) w
made_first ps w m ns =
    let more : length ps < length (ps ++ part_of ps w m ∷ []) = simp length-append (omega arith) in
    record {
      before = ps;
      count = refl;
      made = parts_front (ps ++ part_of ps w m ∷ []) (count_after m w) ns (length ps) more ∙ get_last ps (part_of ps w m);
      stays = λ j h. parts_front ps w (m ∷ ns) j h;
    }

made_from : (ps : List Part) (w : ℕ) (ns : List Node) (i : ℕ) (n : Node) → slice_get ns i ≡ Some n →
    Made (parts_from ps w ns) n (length ps + i) (w + witness_number ns i)
made_from ps w [] i n is = absurd (cc)
made_from ps w (m ∷ ns) zero n is =
    made_at (parts_from ps w (m ∷ ns)) m n (length ps) (length ps + 0) w (w + 0) (cc) (omega arith) (omega arith) (made_first ps w m ns)
made_from ps w (m ∷ ns) (suc i) n is =
    let place : length (ps ++ part_of ps w m ∷ []) + i ≡ length ps + suc i = simp length-append (omega arith) in
    made_at (parts_from ps w (m ∷ ns)) n n (length (ps ++ part_of ps w m ∷ []) + i) (length ps + suc i) (count_after m w + witness_number ns i)
    (w + count_after m (witness_number ns i)) refl place (count_later m w (witness_number ns i))
    (made_from (ps ++ part_of ps w m ∷ []) (count_after m w) ns i n is)

-- the parts at a node's children are all that its part takes from those before it
part_same : (ps qs : List Part) (w k : ℕ) (n : Node) → AreUnder k (children n) → ((j : ℕ) → j < k → slice_get ps j ≡ slice_get qs j) →
    part_of qs w n ≡ part_of ps w n
part_same ps qs w k (node.Injl i) h same = let e = same i h.0 in rw e refl
part_same ps qs w k (node.Injr i) h same = let e = same i h.0 in rw e refl
part_same ps qs w k (node.Take i) h same = let e = same i h.0 in rw e refl
part_same ps qs w k (node.Drop i) h same = let e = same i h.0 in rw e refl
part_same ps qs w k (node.Comp i j) h same = let e = same i h.0 in let f = same j h.1.0 in rw (e, f) refl
part_same ps qs w k (node.Case i j) h same = let e = same i h.0 in let f = same j h.1.0 in rw (e, f) refl
part_same ps qs w k (node.Pair i j) h same = let e = same i h.0 in let f = same j h.1.0 in rw (e, f) refl
part_same ps qs w k _ h same = refl

-- a shown child stands before its parent
pub record ShownBefore (ns : List Node) (i j : ℕ) : Type 0 where
  pub child : Node
  pub there : slice_get ns j ≡ Some child
  pub shown : IsShown (Some child)
  pub earlier : j < i

shown_before_of : (ns : List Node) (i j : ℕ) (o : Option Node) → slice_get (take i ns) j ≡ o → IsShown o → ShownBefore ns i j
shown_before_of ns i j None e h = elim h [ ]
shown_before_of ns i j (Some n) e h =
    let found = get_of_take ns i j n e in
    record { child = n; there = found.0; shown = h; earlier = found.1 }

pub shown_before : (ns : List Node) (i j : ℕ) → IsShown (slice_get (take i ns) j) → ShownBefore ns i j
shown_before ns i j h = shown_before_of ns i j (slice_get (take i ns) j) refl h

-- a node is hidden or shown
pub data Seen (n : Node) : Type 0 where
  SeenHidden : (h : List ℕ) → n ≡ node.Hidden h → Seen n
  SeenShown : IsShown (Some n) → Seen n

pub seen : (n : Node) → Seen n
seen (node.Hidden h) = SeenHidden h refl
seen node.Iden = SeenShown tt
seen node.UnitNode = SeenShown tt
seen (node.Injl i) = SeenShown tt
seen (node.Injr i) = SeenShown tt
seen (node.Take i) = SeenShown tt
seen (node.Drop i) = SeenShown tt
seen (node.Comp i j) = SeenShown tt
seen (node.Case i j) = SeenShown tt
seen (node.Pair i j) = SeenShown tt
seen (node.Fail e) = SeenShown tt
seen node.Witness = SeenShown tt
seen (node.Word k n) = SeenShown tt

-- the sides of a case: both shown, or one of them hidden
pub data CaseSides (ns : List Node) (i j k : ℕ) : Type 0 where
  BothShown : ShownBefore ns i j → ShownBefore ns i k → CaseSides ns i j k
  RightHidden : (h : List ℕ) → ShownBefore ns i j → slice_get ns k ≡ Some (node.Hidden h) → k < i → CaseSides ns i j k
  LeftHidden : (h : List ℕ) → slice_get ns j ≡ Some (node.Hidden h) → j < i → ShownBefore ns i k → CaseSides ns i j k

shown_of : (ns : List Node) (i j : ℕ) (n : Node) → slice_get (take i ns) j ≡ Some n → IsShown (Some n) → ShownBefore ns i j
shown_of ns i j n e h = shown_before_of ns i j (Some n) e h

right_of : (ns : List Node) (i j k : ℕ) (t : Node) → ShownBefore ns i j → slice_get (take i ns) k ≡ Some t → Seen t → CaseSides ns i j k
right_of ns i j k t left e (SeenHidden h same) =
    let found = get_of_take ns i k t e in
    RightHidden h left (found.0 ∙ ap Some same) found.1
right_of ns i j k t left e (SeenShown shown) = BothShown left (shown_of ns i k t e shown)

left_hidden_of : (ns : List Node) (i j k : ℕ) (s t : Node) (h : List ℕ) → s ≡ node.Hidden h → slice_get (take i ns) j ≡ Some s →
    slice_get (take i ns) k ≡ Some t → AreCaseSides (Some (node.Hidden h)) (Some t) → CaseSides ns i j k
left_hidden_of ns i j k s t h same e f shown =
    let found = get_of_take ns i j s e in
    LeftHidden h (found.0 ∙ ap Some same) found.1 (shown_of ns i k t f shown)

sides_by : (ns : List Node) (i j k : ℕ) (s t : Node) → slice_get (take i ns) j ≡ Some s → slice_get (take i ns) k ≡ Some t →
    AreCaseSides (Some s) (Some t) → Seen s → CaseSides ns i j k
sides_by ns i j k s t e f sides (SeenHidden h same) =
    left_hidden_of ns i j k s t h same e f (subst (λ (n : Node). AreCaseSides (Some n) (Some t)) same sides)
sides_by ns i j k s t e f sides (SeenShown shown) = right_of ns i j k t (shown_of ns i j s e shown) f (seen t)

no_right : (s : Node) → AreCaseSides (Some s) None → ⊥
no_right s h = h

sides_of : (ns : List Node) (i j k : ℕ) (o p : Option Node) → slice_get (take i ns) j ≡ o → slice_get (take i ns) k ≡ p → AreCaseSides o p → CaseSides ns i j k
sides_of ns i j k None p e f sides = elim sides [ ]
sides_of ns i j k (Some s) None e f sides = elim (no_right s sides) [ ]
sides_of ns i j k (Some s) (Some t) e f sides = sides_by ns i j k s t e f sides (seen s)

-- a node of a placed list may follow those before it
follows_from : (before ns : List Node) (i : ℕ) (n : Node) → PlacedAfter before ns → slice_get ns i ≡ Some n → CanFollow (before ++ take i ns) n
follows_from before [] i n h is = absurd (cc)
follows_from before (m ∷ ns) zero n h is =
    let same : m ≡ n = cc in
    let none : before ++ [] ≡ before = append-nil before in
    subst (λ (l : List Node). CanFollow l n) (sym none) (subst (CanFollow before) same h.0)
follows_from before (m ∷ ns) (suc i) n h is =
    let more : (before ++ m ∷ []) ++ take i ns ≡ before ++ (m ∷ take i ns) = append_assoc before (m ∷ []) (take i ns) in
    subst (λ (l : List Node). CanFollow l n) more (follows_from (before ++ m ∷ []) ns i n h.1 is)

pub follows_at : (ns : List Node) (i : ℕ) (n : Node) → IsPlaced ns → slice_get ns i ≡ Some n → CanFollow (take i ns) n
follows_at ns i n h is = follows_from [] ns i n h is

left_under : (ns : List Node) (i j k : ℕ) → CaseSides ns i j k → AreUnder i (j ∷ k ∷ [])
left_under ns i j k (BothShown s t) = (s.earlier, (t.earlier, tt))
left_under ns i j k (RightHidden h s there earlier) = (s.earlier, (earlier, tt))
left_under ns i j k (LeftHidden h there earlier t) = (earlier, (t.earlier, tt))

pub sides_at : (ns : List Node) (i j k : ℕ) → CanFollow (take i ns) (node.Case j k) → CaseSides ns i j k
sides_at ns i j k h = sides_of ns i j k (slice_get (take i ns) j) (slice_get (take i ns) k) refl refl h

-- the children of a node of a placed list stand before it
pub children_under : (ns : List Node) (i : ℕ) (n : Node) → CanFollow (take i ns) n → AreUnder i (children n)
children_under ns i (node.Injl j) h = ((shown_before ns i j h).earlier, tt)
children_under ns i (node.Injr j) h = ((shown_before ns i j h).earlier, tt)
children_under ns i (node.Take j) h = ((shown_before ns i j h).earlier, tt)
children_under ns i (node.Drop j) h = ((shown_before ns i j h).earlier, tt)
children_under ns i (node.Comp j k) h = ((shown_before ns i j h.0).earlier, ((shown_before ns i k h.1).earlier, tt))
children_under ns i (node.Pair j k) h = ((shown_before ns i j h.0).earlier, ((shown_before ns i k h.1).earlier, tt))
children_under ns i (node.Case j k) h = left_under ns i j k (sides_at ns i j k h)
children_under ns i _ h = tt

-- the part of a node of a placed list, from those of its children
pub parts_at : (ns : List Node) (i : ℕ) (n : Node) → IsPlaced ns → slice_get ns i ≡ Some n →
    slice_get (parts ns) i ≡ Some (part_of (parts ns) (witness_number ns i) n)
parts_at ns i n placed is =
    let made = made_from [] 0 ns i n is in
    let place : 0 + i ≡ i = omega arith in
    let number : 0 + witness_number ns i ≡ witness_number ns i = omega arith in
    let there = made_at (parts ns) n n (0 + i) i (0 + witness_number ns i) (witness_number ns i) refl place number made in
    let under = children_under ns i n (follows_at ns i n placed is) in
    there.made ∙ ap Some (part_same (parts ns) there.before (witness_number ns i) i n under there.stays)

-- the tree of a node whose part is a tree
tree_is : (ps : List Part) (i : ℕ) (p : Part) (t : Term) → slice_get ps i ≡ Some p → p ≡ Tree t → tree_at ps i ≡ t
tree_is ps i p t e f = rw e (ap tree_of_part f)

shown_part : (ps : List Part) (w : ℕ) (n : Node) → IsShown (Some n) → part_of ps w n ≡ Tree (tree_of_part (part_of ps w n))
shown_part ps w (node.Hidden h) shown = elim shown [ ]
shown_part ps w _ shown = refl

-- a shown node's part is its tree, a hidden node's its bytes
pub shown_at : (ns : List Node) (i : ℕ) (n : Node) → IsPlaced ns → slice_get ns i ≡ Some n → IsShown (Some n) → part_at (parts ns) i ≡ Tree (tree_of_node ns i)
shown_at ns i n placed is shown =
    let e = parts_at ns i n placed is in
    let there : part_at (parts ns) i ≡ part_of (parts ns) (witness_number ns i) n = rw e refl in
    there ∙ shown_part (parts ns) (witness_number ns i) n shown ∙ ap (λ p. Tree (tree_of_part p)) (sym there)

pub hidden_side_at : (ns : List Node) (i : ℕ) (h : List ℕ) → IsPlaced ns → slice_get ns i ≡ Some (node.Hidden h) → part_at (parts ns) i ≡ HiddenSide h
hidden_side_at ns i h placed is = let e = parts_at ns i (node.Hidden h) placed is in rw e refl
