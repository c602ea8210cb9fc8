-- Cuts: hiding is one, it is a cut, and a cut of a placed list is placed.
use Rattle.std.proofs.Common.{◌≡◌, refl, ap, sym, subst, ◌∙◌, ℕ, zero, suc, ◌+◌, ◌-◌, ◌<◌, List, [], ◌∷◌, ◌++◌, length, take, map, Option, Some, None, arith, length-append}
use Rattle.std.specs.Prelude.{slice_get}
use Rattle.simplicity.specs.Types.{Value}
use Rattle.simplicity.specs.Terms.{Term}
use Rattle.simplicity.specs.Nodes as node
use Rattle.simplicity.specs.Nodes.{Node, IsShown, AreCaseSides, CanFollow, IsPlaced, Part, Tree, HiddenSide, part_of, parts_from, parts, part_at, count_after, witness_number, tree_of_node}
use Rattle.simplicity.specs.Roots.{part_root}
use Rattle.simplicity.specs.Pruning.{Choice, Keep, HideLeft, HideRight, cut_case, cut_node, cut_from, cut, IsOpenAt, IsCut, HidesUnvisited}
use Rattle.simplicity.proofs.Unfold.{get_front, follows_at, parts_at, shown_at, hidden_side_at, ShownBefore, shown_before, CaseSides, BothShown, RightHidden, LeftHidden, sides_at}
use Rattle.sharing.specs.Laws.{HidingCuts, HidingIsOne, CutsArePlaced}
use Rattle.sharing.proofs.Merging.{within_of, there_at}
use Rattle.sharing.proofs.Merged.{Split, Less, More, split}
use Rattle.sharing.proofs.Gathering.{placed_from, get_take}

-- hiding is a cut

hides_open : (ns : List Node) (w : List Value) (v : Value) (choices : ℕ → Choice) (i : ℕ) (c : Choice) → choices i ≡ c → HidesUnvisited ns w v choices → (choices i ≡ Keep → ⊥) → IsOpenAt ns i
hides_open ns w v choices i Keep e hides none = absurd (none e)
hides_open ns w v choices i HideLeft e hides none = ((hides.left i).0 e).0
hides_open ns w v choices i HideRight e hides none = ((hides.right i).0 e).0

pub hiding_cuts : HidingCuts
hiding_cuts ns hidden w v h = record {
  choices = h.choices;
  hides = λ i none. hides_open ns w v h.choices i (h.choices i) refl h.unvisited none;
  is_cut = h.is_cut;
}

-- two choices that hide the same are the same

same_choice : (ns : List Node) (w : List Value) (v : Value) (f g : ℕ → Choice) (i : ℕ) (c d : Choice) → HidesUnvisited ns w v f → HidesUnvisited ns w v g → f i ≡ c → g i ≡ d → f i ≡ g i
same_choice ns w v f g i HideLeft d a b e h = e ∙ sym ((b.left i).1 ((a.left i).0 e))
same_choice ns w v f g i HideRight d a b e h = e ∙ sym ((b.right i).1 ((a.right i).0 e))
same_choice ns w v f g i Keep HideLeft a b e h = (a.left i).1 ((b.left i).0 h) ∙ sym h
same_choice ns w v f g i Keep HideRight a b e h = (a.right i).1 ((b.right i).0 h) ∙ sym h
same_choice ns w v f g i Keep Keep a b e h = e ∙ sym h

same_cut : (ps : List Part) (later : ℕ) (f g : ℕ → Choice) (i : ℕ) (ns : List Node) → ((k : ℕ) → f k ≡ g k) → cut_from ps later f i ns ≡ cut_from ps later g i ns
same_cut ps later f g i [] same = refl
same_cut ps later f g i (n ∷ ns) same =
    ap (λ (c : Choice). cut_node ps later c n ∷ cut_from ps later f (i + 1) ns) (same i)
    ∙ ap (λ (l : List Node). cut_node ps later (g i) n ∷ l) (same_cut ps later f g (i + 1) ns same)

pub hiding_is_one : HidingIsOne
hiding_is_one ns first second w v a b =
    let same = λ (k : ℕ). same_choice ns w v a.choices b.choices k (a.choices k) (b.choices k) a.unvisited b.unvisited refl refl in
    a.is_cut
    ∙ ap (λ (l : List Node). map (λ p. node.Hidden (part_root p)) (parts ns) ++ l) (same_cut (parts ns) (length ns) a.choices b.choices 0 ns same)
    ∙ sym b.is_cut

-- the nodes of a cut

abbrev roots_of : List Part → List Node
roots_of ps = map (λ p. node.Hidden (part_root p)) ps

roots_length : (ps : List Part) → length (roots_of ps) ≡ length ps
roots_length [] = refl
roots_length (p ∷ ps) = ap suc (roots_length ps)

root_at : (ps : List Part) (i : ℕ) (p : Part) → slice_get ps i ≡ Some p → slice_get (roots_of ps) i ≡ Some (node.Hidden (part_root p))
root_at [] i p e = absurd (cc)
root_at (q ∷ ps) zero p e = let same : q ≡ p = cc in ap (λ (x : Part). Some (node.Hidden (part_root x))) same
root_at (q ∷ ps) (suc i) p e = root_at ps i p e

cut_at : (ps : List Part) (later : ℕ) (f : ℕ → Choice) (k : ℕ) (ns : List Node) (i : ℕ) (n : Node) → slice_get ns i ≡ Some n → slice_get (cut_from ps later f k ns) i ≡ Some (cut_node ps later (f (k + i)) n)
cut_at ps later f k [] i n e = absurd (cc)
cut_at ps later f k (m ∷ ns) zero n e =
    let same : m ≡ n = cc in
    let here : k ≡ k + 0 = omega arith in
    ap (λ (x : Node). Some (cut_node ps later (f k) x)) same ∙ ap (λ (x : ℕ). Some (cut_node ps later (f x) n)) here
cut_at ps later f k (m ∷ ns) (suc i) n e =
    let here : (k + 1) + i ≡ k + suc i = omega arith in
    cut_at ps later f (k + 1) ns i n e ∙ ap (λ (x : ℕ). Some (cut_node ps later (f x) n)) here

cut_length : (ps : List Part) (later : ℕ) (f : ℕ → Choice) (k : ℕ) (ns : List Node) → length (cut_from ps later f k ns) ≡ length ns
cut_length ps later f k [] = refl
cut_length ps later f k (n ∷ ns) = ap suc (cut_length ps later f (k + 1) ns)

parts_length : (ps : List Part) (w : ℕ) (ns : List Node) → length (parts_from ps w ns) ≡ length ps + length ns
parts_length ps w [] = omega arith
parts_length ps w (n ∷ ns) =
    let rest = parts_length (ps ++ part_of ps w n ∷ []) (count_after n w) ns in
    let more = length-append ps (part_of ps w n ∷ []) in
    omega (arith, rest, more)

get_after : (xs ys : List Node) (i : ℕ) → slice_get (xs ++ ys) (length xs + i) ≡ slice_get ys i
get_after [] ys i = let same : 0 + i ≡ i = omega arith in ap (slice_get ys) same
get_after (x ∷ xs) ys i =
    let same : suc (length xs) + i ≡ suc (length xs + i) = omega arith in
    ap (slice_get (x ∷ (xs ++ ys))) same ∙ get_after xs ys i

-- first the roots
root_get : (ns : List Node) (f : ℕ → Choice) (i : ℕ) → IsPlaced ns → i < length ns → (h : List ℕ) × (slice_get (cut f ns) i ≡ Some (node.Hidden h))
root_get ns f i placed l =
    let n = there_at ns i l in
    let part = parts_at ns i n.0 placed n.1 in
    let here = root_at (parts ns) i (part_of (parts ns) (witness_number ns i) n.0) part in
    let inside = within_of (roots_of (parts ns)) i (node.Hidden (part_root (part_of (parts ns) (witness_number ns i) n.0))) here in
    (part_root (part_of (parts ns) (witness_number ns i) n.0), get_front (roots_of (parts ns)) (cut_from (parts ns) (length ns) f 0 ns) i inside ∙ here)

-- and then the nodes
node_get : (ns : List Node) (f : ℕ → Choice) (i : ℕ) (n : Node) → slice_get ns i ≡ Some n → slice_get (cut f ns) (length ns + i) ≡ Some (cut_node (parts ns) (length ns) (f i) n)
node_get ns f i n e =
    let count = roots_length (parts ns) in
    let all = parts_length [] 0 ns in
    let place : length ns + i ≡ length (roots_of (parts ns)) + i = omega (arith, count, all) in
    let here : 0 + i ≡ i = omega arith in
    ap (slice_get (cut f ns)) place ∙ get_after (roots_of (parts ns)) (cut_from (parts ns) (length ns) f 0 ns) i ∙ cut_at (parts ns) (length ns) f 0 ns i n e
    ∙ ap (λ (x : ℕ). Some (cut_node (parts ns) (length ns) (f x) n)) here

-- a shown node stays shown

case_shown : (later : ℕ) (c : Choice) (s t : ℕ) (p q : Part) → IsShown (Some (cut_case later c s t p q))
case_shown later Keep s t p q = tt
case_shown later HideLeft s t (Tree p) (Tree q) = tt
case_shown later HideLeft s t (Tree p) (HiddenSide h) = tt
case_shown later HideLeft s t (HiddenSide h) q = tt
case_shown later HideRight s t (Tree p) (Tree q) = tt
case_shown later HideRight s t (Tree p) (HiddenSide h) = tt
case_shown later HideRight s t (HiddenSide h) q = tt

cut_shown : (ps : List Part) (later : ℕ) (c : Choice) (n : Node) → IsShown (Some n) → IsShown (Some (cut_node ps later c n))
cut_shown ps later c (node.Hidden h) s = elim s [ ]
cut_shown ps later c (node.Case i j) s = case_shown later c i j (part_at ps i) (part_at ps j)
cut_shown ps later c node.Iden s = tt
cut_shown ps later c node.UnitNode s = tt
cut_shown ps later c (node.Injl i) s = tt
cut_shown ps later c (node.Injr i) s = tt
cut_shown ps later c (node.Take i) s = tt
cut_shown ps later c (node.Drop i) s = tt
cut_shown ps later c (node.Comp i j) s = tt
cut_shown ps later c (node.Pair i j) s = tt
cut_shown ps later c (node.Fail e) s = tt
cut_shown ps later c node.Witness s = tt
cut_shown ps later c (node.Word k m) s = tt

-- what stands before a node of the cut
abbrev before : List Node → (ℕ → Choice) → ℕ → List Node
before ns f j = take (length ns + j) (cut f ns)

node_before : (ns : List Node) (f : ℕ → Choice) (j c : ℕ) (n : Node) → slice_get ns c ≡ Some n → c < j → slice_get (before ns f j) (length ns + c) ≡ Some (cut_node (parts ns) (length ns) (f c) n)
node_before ns f j c n e l = get_take (cut f ns) (length ns + j) (length ns + c) (omega (arith, l)) ∙ node_get ns f c n e

shown_later : (ns : List Node) (f : ℕ → Choice) (j c : ℕ) → ShownBefore ns j c → IsShown (slice_get (before ns f j) (length ns + c))
shown_later ns f j c b = subst IsShown (sym (node_before ns f j c b.child b.there b.earlier)) (cut_shown (parts ns) (length ns) (f c) b.child b.shown)

root_before : (ns : List Node) (f : ℕ → Choice) (j c : ℕ) → IsPlaced ns → c < length ns → (h : List ℕ) × (slice_get (before ns f j) c ≡ Some (node.Hidden h))
root_before ns f j c placed l =
    let r = root_get ns f c placed l in
    (r.0, get_take (cut f ns) (length ns + j) c (omega (arith, l)) ∙ r.1)

-- the sides of a case of the cut

beside_shown : (m n : Node) → IsShown (Some m) → AreCaseSides (Some m) (Some n)
beside_shown (node.Hidden h) n s = elim s [ ]
beside_shown node.Iden n s = tt
beside_shown node.UnitNode n s = tt
beside_shown (node.Injl i) n s = tt
beside_shown (node.Injr i) n s = tt
beside_shown (node.Take i) n s = tt
beside_shown (node.Drop i) n s = tt
beside_shown (node.Comp i j) n s = tt
beside_shown (node.Case i j) n s = tt
beside_shown (node.Pair i j) n s = tt
beside_shown (node.Fail e) n s = tt
beside_shown node.Witness n s = tt
beside_shown (node.Word k l) n s = tt

shown_left : (o p : Option Node) (n : Node) → IsShown o → p ≡ Some n → AreCaseSides o p
shown_left None p n s e = elim s [ ]
shown_left (Some m) p n s e = subst (AreCaseSides (Some m)) (sym e) (beside_shown m n s)

hidden_then : (h : List ℕ) (p : Option Node) → IsShown p → AreCaseSides (Some (node.Hidden h)) p
hidden_then h None s = elim s [ ]
hidden_then h (Some n) s = s

hidden_left : (o p : Option Node) (h : List ℕ) → o ≡ Some (node.Hidden h) → IsShown p → AreCaseSides o p
hidden_left o p h e s = subst (λ (x : Option Node). AreCaseSides x p) (sym e) (hidden_then h p s)

stays_right : (later : ℕ) (c : Choice) (s t : ℕ) (p : Term) (h : List ℕ) → cut_case later c s t (Tree p) (HiddenSide h) ≡ node.Case (later + s) (later + t)
stays_right later Keep s t p h = refl
stays_right later HideLeft s t p h = refl
stays_right later HideRight s t p h = refl

stays_left : (later : ℕ) (c : Choice) (s t : ℕ) (h : List ℕ) (q : Part) → cut_case later c s t (HiddenSide h) q ≡ node.Case (later + s) (later + t)
stays_left later Keep s t h q = refl
stays_left later HideLeft s t h q = refl
stays_left later HideRight s t h q = refl

open_follows : (ns : List Node) (f : ℕ → Choice) (j s t : ℕ) (c : Choice) (p q : Term) → IsPlaced ns → j < length ns → ShownBefore ns j s → ShownBefore ns j t →
    CanFollow (before ns f j) (cut_case (length ns) c s t (Tree p) (Tree q))
open_follows ns f j s t Keep p q placed l a b =
    shown_left (slice_get (before ns f j) (length ns + s)) (slice_get (before ns f j) (length ns + t)) (cut_node (parts ns) (length ns) (f t) b.child)
    (shown_later ns f j s a) (node_before ns f j t b.child b.there b.earlier)
open_follows ns f j s t HideLeft p q placed l a b =
    let r = root_before ns f j s placed (omega (arith, a.earlier, l)) in
    hidden_left (slice_get (before ns f j) s) (slice_get (before ns f j) (length ns + t)) r.0 r.1 (shown_later ns f j t b)
open_follows ns f j s t HideRight p q placed l a b =
    let r = root_before ns f j t placed (omega (arith, b.earlier, l)) in
    shown_left (slice_get (before ns f j) (length ns + s)) (slice_get (before ns f j) t) (node.Hidden r.0) (shown_later ns f j s a) r.1

case_follows : (ns : List Node) (f : ℕ → Choice) (j s t : ℕ) (c : Choice) → IsPlaced ns → j < length ns → CaseSides ns j s t →
    CanFollow (before ns f j) (cut_case (length ns) c s t (part_at (parts ns) s) (part_at (parts ns) t))
case_follows ns f j s t c placed l (BothShown a b) =
    let left = shown_at ns s a.child placed a.there a.shown in
    let right = shown_at ns t b.child placed b.there b.shown in
    rw (left, right) (open_follows ns f j s t c (tree_of_node ns s) (tree_of_node ns t) placed l a b)
case_follows ns f j s t c placed l (RightHidden h a e g) =
    let left = shown_at ns s a.child placed a.there a.shown in
    let right = hidden_side_at ns t h placed e in
    rw (left, right) (subst (CanFollow (before ns f j)) (sym (stays_right (length ns) c s t (tree_of_node ns s) h))
    (shown_left (slice_get (before ns f j) (length ns + s)) (slice_get (before ns f j) (length ns + t)) (node.Hidden h) (shown_later ns f j s a) (node_before ns f j t (node.Hidden h) e g)))
case_follows ns f j s t c placed l (LeftHidden h e g b) =
    let left = hidden_side_at ns s h placed e in
    rw left (subst (CanFollow (before ns f j)) (sym (stays_left (length ns) c s t h (part_at (parts ns) t)))
    (hidden_left (slice_get (before ns f j) (length ns + s)) (slice_get (before ns f j) (length ns + t)) h (node_before ns f j s (node.Hidden h) e g) (shown_later ns f j t b)))

node_follows : (ns : List Node) (f : ℕ → Choice) (j : ℕ) (n : Node) → IsPlaced ns → j < length ns → CanFollow (take j ns) n → CanFollow (before ns f j) (cut_node (parts ns) (length ns) (f j) n)
node_follows ns f j (node.Case s t) placed l h = case_follows ns f j s t (f j) placed l (sides_at ns j s t h)
node_follows ns f j (node.Injl i) placed l h = shown_later ns f j i (shown_before ns j i h)
node_follows ns f j (node.Injr i) placed l h = shown_later ns f j i (shown_before ns j i h)
node_follows ns f j (node.Take i) placed l h = shown_later ns f j i (shown_before ns j i h)
node_follows ns f j (node.Drop i) placed l h = shown_later ns f j i (shown_before ns j i h)
node_follows ns f j (node.Comp i k) placed l h = (shown_later ns f j i (shown_before ns j i h.0), shown_later ns f j k (shown_before ns j k h.1))
node_follows ns f j (node.Pair i k) placed l h = (shown_later ns f j i (shown_before ns j i h.0), shown_later ns f j k (shown_before ns j k h.1))
node_follows ns f j node.Iden placed l h = tt
node_follows ns f j node.UnitNode placed l h = tt
node_follows ns f j (node.Hidden b) placed l h = tt
node_follows ns f j (node.Fail e) placed l h = tt
node_follows ns f j node.Witness placed l h = tt
node_follows ns f j (node.Word k m) placed l h = tt

cut_count : (ns : List Node) (f : ℕ → Choice) → length (cut f ns) ≡ length ns + length ns
cut_count ns f =
    let roots = roots_length (parts ns) in
    let all = parts_length [] 0 ns in
    let nodes = cut_length (parts ns) (length ns) f 0 ns in
    length-append (roots_of (parts ns)) (cut_from (parts ns) (length ns) f 0 ns) ∙ omega (arith, roots, all, nodes)

follows_by : (ns : List Node) (f : ℕ → Choice) (k : ℕ) (m : Node) → IsPlaced ns → slice_get (cut f ns) k ≡ Some m → Split k (length ns) → CanFollow (take k (cut f ns)) m
follows_by ns f k m placed e (Less l) =
    let r = root_get ns f k placed l in
    let same : node.Hidden r.0 ≡ m = let there = r.1 in cc in
    subst (CanFollow (take k (cut f ns))) same tt
follows_by ns f k m placed e (More l) =
    let inside = within_of (cut f ns) k m e in
    let count = cut_count ns f in
    let j = k - length ns in
    let short : j < length ns = omega (arith, l, inside, count) in
    let place : length ns + j ≡ k = omega (arith, l) in
    let n = there_at ns j short in
    let there : slice_get (cut f ns) k ≡ Some (cut_node (parts ns) (length ns) (f j) n.0) = ap (slice_get (cut f ns)) (sym place) ∙ node_get ns f j n.0 n.1 in
    let same : cut_node (parts ns) (length ns) (f j) n.0 ≡ m = cc in
    subst (CanFollow (take k (cut f ns))) same
    (subst (λ (x : ℕ). CanFollow (take x (cut f ns)) (cut_node (parts ns) (length ns) (f j) n.0)) place
    (node_follows ns f j n.0 placed short (follows_at ns j n.0 placed n.1)))

pub cuts_are_placed : CutsArePlaced
cuts_are_placed ns after placed h =
    subst IsPlaced (sym h.is_cut) (placed_from (cut h.choices ns) (λ k m e. follows_by ns h.choices k m placed e (split k (length ns))))

pub cut_full : (ns after : List Node) → 0 < length ns → IsCut ns after → 0 < length after
cut_full ns after full h =
    let count = cut_count ns h.choices in
    let same = ap (λ (l : List Node). length l) h.is_cut in
    omega (arith, count, same, full)
