-- Each shown node of a placed list unfolds to its tree, and in a typed list the tree has the node's arrow.
use Rattle.std.proofs.Common.{◌≡◌, refl, ap, sym, subst, ◌∙◌, ℕ, zero, suc, ◌<◌, List, [], ◌∷◌, take, Option, Some, None, arith, add-one}
use Rattle.std.specs.Prelude.{slice_get}
use Rattle.simplicity.specs.Types.{Kind, Product}
use Rattle.simplicity.specs.Terms as term
use Rattle.simplicity.specs.Terms.{Term}
use Rattle.simplicity.specs.Nodes as node
use Rattle.simplicity.specs.Nodes.{Node, Part, Tree, HiddenSide, IsShown, IsHidden, CanFollow, IsPlaced, count_after, part_at, tree_at, tree_of_part, case_of, part_of, parts, witness_number, tree_of_node, Unfolds}
use Rattle.simplicity.specs.Typing.{Typing, Arrow, arrow, HasArrow, HasNoArrow, Meets, EntryMeets, EntriesMeet, IsTyping, IsTyped, witness_targets}
use Rattle.simplicity.specs.Typing as row
use Rattle.simplicity.proofs.Unfold.{parts_at, shown_at, hidden_side_at, follows_at, sides_at, shown_before, ShownBefore, CaseSides, BothShown, RightHidden, LeftHidden, Seen, SeenHidden, SeenShown, seen}
use Rattle.simplicity.proofs.Typings.{meets_at, hidden_at, entry_at, some_node}

-- the tree of a node, once its part is known
tree_by : (ns : List Node) (i : ℕ) (n : Node) (t : Term) → IsPlaced ns → slice_get ns i ≡ Some n →
    part_of (parts ns) (witness_number ns i) n ≡ Tree t → Unfolds ns i t → Unfolds ns i (tree_of_node ns i)
tree_by ns i n t placed is made unfolds =
    let e = parts_at ns i n placed is in
    let there : part_at (parts ns) i ≡ part_of (parts ns) (witness_number ns i) n = rw e refl in
    let same : tree_of_node ns i ≡ t = ap tree_of_part (there ∙ made) in
    subst (Unfolds ns i) (sym same) unfolds

-- what an unfolding knows of the nodes before
Before : List Node → ℕ → Type 0
Before ns i = (j : ℕ) (m : Node) → j < i → slice_get ns j ≡ Some m → IsShown (Some m) → Unfolds ns j (tree_of_node ns j)

child_of : (ns : List Node) (i j : ℕ) → Before ns i → ShownBefore ns i j → Unfolds ns j (tree_of_node ns j)
unfolding Before
child_of ns i j before s = before j s.child s.earlier s.there s.shown

case_unfolds : (ns : List Node) (i j k : ℕ) → IsPlaced ns → slice_get ns i ≡ Some (node.Case j k) → Before ns i → CaseSides ns i j k →
    Unfolds ns i (tree_of_node ns i)
case_unfolds ns i j k placed is before (BothShown s t) =
    let left : part_at (parts ns) j ≡ Tree (tree_of_node ns j) = shown_at ns j s.child placed s.there s.shown in
    let right : part_at (parts ns) k ≡ Tree (tree_of_node ns k) = shown_at ns k t.child placed t.there t.shown in
    let made : Tree (case_of (part_at (parts ns) j) (part_at (parts ns) k)) ≡ Tree (term.Case (tree_of_node ns j) (tree_of_node ns k)) =
    ap (λ p. Tree (case_of p (part_at (parts ns) k))) left ∙ ap (λ p. Tree (case_of (Tree (tree_of_node ns j)) p)) right in
    tree_by ns i (node.Case j k) (term.Case (tree_of_node ns j) (tree_of_node ns k)) placed is made
    (node.UnfoldCase i j k (tree_of_node ns j) (tree_of_node ns k) is (child_of ns i j before s) (child_of ns i k before t))
case_unfolds ns i j k placed is before (RightHidden h s there earlier) =
    let left : part_at (parts ns) j ≡ Tree (tree_of_node ns j) = shown_at ns j s.child placed s.there s.shown in
    let right : part_at (parts ns) k ≡ HiddenSide h = hidden_side_at ns k h placed there in
    let made : Tree (case_of (part_at (parts ns) j) (part_at (parts ns) k)) ≡ Tree (term.AssertL (tree_of_node ns j) h) =
    ap (λ p. Tree (case_of p (part_at (parts ns) k))) left ∙ ap (λ p. Tree (case_of (Tree (tree_of_node ns j)) p)) right in
    tree_by ns i (node.Case j k) (term.AssertL (tree_of_node ns j) h) placed is made
    (node.UnfoldAssertL i j k (tree_of_node ns j) h is (child_of ns i j before s) there)
case_unfolds ns i j k placed is before (LeftHidden h there earlier t) =
    let left : part_at (parts ns) j ≡ HiddenSide h = hidden_side_at ns j h placed there in
    let right : part_at (parts ns) k ≡ Tree (tree_of_node ns k) = shown_at ns k t.child placed t.there t.shown in
    let made : Tree (case_of (part_at (parts ns) j) (part_at (parts ns) k)) ≡ Tree (term.AssertR h (tree_of_node ns k)) =
    ap (λ p. Tree (case_of p (part_at (parts ns) k))) left ∙ ap (λ p. Tree (case_of (HiddenSide h) p)) right in
    tree_by ns i (node.Case j k) (term.AssertR h (tree_of_node ns k)) placed is made
    (node.UnfoldAssertR i j k h (tree_of_node ns k) is there (child_of ns i k before t))

node_unfolds : (ns : List Node) (i : ℕ) (n : Node) → IsPlaced ns → slice_get ns i ≡ Some n → IsShown (Some n) → CanFollow (take i ns) n → Before ns i →
    Unfolds ns i (tree_of_node ns i)
node_unfolds ns i node.Iden placed is shown follows before = tree_by ns i node.Iden term.Iden placed is refl (node.UnfoldIden i is)
node_unfolds ns i node.UnitNode placed is shown follows before = tree_by ns i node.UnitNode term.UnitTerm placed is refl (node.UnfoldUnit i is)
node_unfolds ns i (node.Injl j) placed is shown follows before =
    tree_by ns i (node.Injl j) (term.Injl (tree_of_node ns j)) placed is refl
    (node.UnfoldInjl i j (tree_of_node ns j) is (child_of ns i j before (shown_before ns i j follows)))
node_unfolds ns i (node.Injr j) placed is shown follows before =
    tree_by ns i (node.Injr j) (term.Injr (tree_of_node ns j)) placed is refl
    (node.UnfoldInjr i j (tree_of_node ns j) is (child_of ns i j before (shown_before ns i j follows)))
node_unfolds ns i (node.Take j) placed is shown follows before =
    tree_by ns i (node.Take j) (term.Take (tree_of_node ns j)) placed is refl
    (node.UnfoldTake i j (tree_of_node ns j) is (child_of ns i j before (shown_before ns i j follows)))
node_unfolds ns i (node.Drop j) placed is shown follows before =
    tree_by ns i (node.Drop j) (term.Drop (tree_of_node ns j)) placed is refl
    (node.UnfoldDrop i j (tree_of_node ns j) is (child_of ns i j before (shown_before ns i j follows)))
node_unfolds ns i (node.Comp j k) placed is shown follows before =
    tree_by ns i (node.Comp j k) (term.Comp (tree_of_node ns j) (tree_of_node ns k)) placed is refl
    (node.UnfoldComp i j k (tree_of_node ns j) (tree_of_node ns k) is (child_of ns i j before (shown_before ns i j follows.0))
    (child_of ns i k before (shown_before ns i k follows.1)))
node_unfolds ns i (node.Pair j k) placed is shown follows before =
    tree_by ns i (node.Pair j k) (term.PairTerm (tree_of_node ns j) (tree_of_node ns k)) placed is refl
    (node.UnfoldPair i j k (tree_of_node ns j) (tree_of_node ns k) is (child_of ns i j before (shown_before ns i j follows.0))
    (child_of ns i k before (shown_before ns i k follows.1)))
node_unfolds ns i (node.Case j k) placed is shown follows before = case_unfolds ns i j k placed is before (sides_at ns i j k follows)
node_unfolds ns i (node.Hidden h) placed is shown follows before = elim shown [ ]
node_unfolds ns i (node.Fail e) placed is shown follows before = tree_by ns i (node.Fail e) (term.Fail e) placed is refl (node.UnfoldFail i e is)
node_unfolds ns i node.Witness placed is shown follows before =
    tree_by ns i node.Witness (term.Witness (witness_number ns i)) placed is refl (node.UnfoldWitness i is)
node_unfolds ns i (node.Word k n) placed is shown follows before = tree_by ns i (node.Word k n) (term.Word k n) placed is refl (node.UnfoldWord i k n is)

unfold_below : (ns : List Node) (turns : ℕ) → IsPlaced ns → Before ns turns
unfolding Before
unfold_below ns zero placed j m h is shown = absurd (omega arith)
unfold_below ns (suc turns) placed j m h is shown =
    node_unfolds ns j m placed is shown (follows_at ns j m placed is)
    (λ i n g there seen. unfold_below ns turns placed i n (omega arith) there seen)

found : (ns : List Node) (i : ℕ) (o : Option Node) → IsPlaced ns → slice_get ns i ≡ o → IsShown o → Unfolds ns i (tree_of_node ns i)
unfolding Before
found ns i None placed is shown = elim shown [ ]
found ns i (Some n) placed is shown = unfold_below ns (suc i) placed i n (omega arith) is shown

-- each shown node of a placed list unfolds to its tree
pub nodes_unfold : (ns : List Node) (i : ℕ) → IsPlaced ns → IsShown (slice_get ns i) → Unfolds ns i (tree_of_node ns i)
nodes_unfold ns i placed shown = found ns i (slice_get ns i) placed refl shown

-- the target of a witness node stands at its number
witness_skipped : (ts : Typing) (n : Node) (e : Option Arrow) (ns : List Node) (es : Typing) (k : ℕ) (b : Kind) → EntryMeets ts n e →
    slice_get (witness_targets ns es) k ≡ Some b → slice_get (witness_targets (n ∷ ns) (e ∷ es)) (count_after n k) ≡ Some b
witness_skipped ts node.Witness None ns es k b meets is = elim meets [ ]
witness_skipped ts node.Witness (Some a) ns es k b meets is = rw add-one is
witness_skipped ts _ e ns es k b meets is = is

pub witness_target : (ts : Typing) (ns : List Node) (es : Typing) (i : ℕ) (a b : Kind) → EntriesMeet ts ns es → slice_get ns i ≡ Some node.Witness →
    slice_get es i ≡ Some (Some (arrow a b)) → slice_get (witness_targets ns es) (witness_number ns i) ≡ Some b
witness_target ts [] es i a b h is has = absurd (cc)
witness_target ts (n ∷ ns) [] i a b h is has = elim h [ ]
witness_target ts (n ∷ ns) (e ∷ es) zero a b h is has =
    let same : n ≡ node.Witness = cc in
    let entry : e ≡ Some (arrow a b) = cc in
    rw (same, entry) (refl {a = Some b})
witness_target ts (n ∷ ns) (e ∷ es) (suc i) a b h is has = witness_skipped ts n e ns es (witness_number ns i) b h.0 (witness_target ts ns es i a b h.1 is has)

-- a node that unfolds is shown, so it has an arrow
not_hidden : (n : Node) → IsShown (Some n) → IsHidden (Some n) → ⊥
not_hidden (node.Hidden h) shown hidden = elim shown [ ]
not_hidden _ shown hidden = elim hidden [ ]

has_arrow : (ns : List Node) (ts : Typing) (i : ℕ) (n : Node) → IsTyping ns ts → slice_get ns i ≡ Some n → IsShown (Some n) → HasNoArrow ts i → ⊥
has_arrow ns ts i n h is shown none = not_hidden n shown (entry_at ts ns ts i n None h is none)

-- a tree is typed at each arrow that its node has
TypedAt : List Kind → Typing → ℕ → Term → Type 0
TypedAt ws ts i t = (a b : Kind) → HasArrow ts i a b → IsTyped ws t a b

iden_typed : (ws : List Kind) (ts : Typing) (a b : Kind) → Meets ts node.Iden a b → IsTyped ws term.Iden a b
iden_typed ws ts _ _ (row.Iden a) = row.TypedIden a

unit_typed : (ws : List Kind) (ts : Typing) (a b : Kind) → Meets ts node.UnitNode a b → IsTyped ws term.UnitTerm a b
unit_typed ws ts _ _ (row.UnitNode a) = row.TypedUnit a

injl_typed : (ws : List Kind) (ts : Typing) (j : ℕ) (t : Term) (a b : Kind) → TypedAt ws ts j t → Meets ts (node.Injl j) a b → IsTyped ws (term.Injl t) a b
unfolding TypedAt
injl_typed ws ts _ t _ _ on (row.Injl j a b c h) = row.TypedInjl t a b c (on a b h)

injr_typed : (ws : List Kind) (ts : Typing) (j : ℕ) (t : Term) (a b : Kind) → TypedAt ws ts j t → Meets ts (node.Injr j) a b → IsTyped ws (term.Injr t) a b
unfolding TypedAt
injr_typed ws ts _ t _ _ on (row.Injr j a b c h) = row.TypedInjr t a b c (on a c h)

take_typed : (ws : List Kind) (ts : Typing) (j : ℕ) (t : Term) (a b : Kind) → TypedAt ws ts j t → Meets ts (node.Take j) a b → IsTyped ws (term.Take t) a b
unfolding TypedAt
take_typed ws ts _ t _ _ on (row.Take j a b c h) = row.TypedTake t a b c (on a c h)

drop_typed : (ws : List Kind) (ts : Typing) (j : ℕ) (t : Term) (a b : Kind) → TypedAt ws ts j t → Meets ts (node.Drop j) a b → IsTyped ws (term.Drop t) a b
unfolding TypedAt
drop_typed ws ts _ t _ _ on (row.Drop j a b c h) = row.TypedDrop t a b c (on b c h)

comp_typed : (ws : List Kind) (ts : Typing) (j k : ℕ) (s t : Term) (a b : Kind) → TypedAt ws ts j s → TypedAt ws ts k t → Meets ts (node.Comp j k) a b →
    IsTyped ws (term.Comp s t) a b
unfolding TypedAt
comp_typed ws ts _ _ s t _ _ on then_on (row.Comp j k a b c g h) = row.TypedComp s t a b c (on a b g) (then_on b c h)

pair_typed : (ws : List Kind) (ts : Typing) (j k : ℕ) (s t : Term) (a b : Kind) → TypedAt ws ts j s → TypedAt ws ts k t → Meets ts (node.Pair j k) a b →
    IsTyped ws (term.PairTerm s t) a b
unfolding TypedAt
pair_typed ws ts _ _ s t _ _ left right (row.Pair j k a b c g h) = row.TypedPair s t a b c (left a b g) (right a c h)

case_typed : (ws : List Kind) (ts : Typing) (j k : ℕ) (s t : Term) (a b : Kind) → TypedAt ws ts j s → TypedAt ws ts k t → (HasNoArrow ts j → ⊥) →
    (HasNoArrow ts k → ⊥) → Meets ts (node.Case j k) a b → IsTyped ws (term.Case s t) a b
unfolding TypedAt
case_typed ws ts _ _ s t _ _ left right first second (row.Case j k a b c d g h) = row.TypedCase s t a b c d (left (Product a c) d g) (right (Product b c) d h)
case_typed ws ts _ _ s t _ _ left right first second (row.AssertL j k a b c d g h) = absurd (second h)
case_typed ws ts _ _ s t _ _ left right first second (row.AssertR j k a b c d g h) = absurd (first g)

assertl_typed : (ws : List Kind) (ts : Typing) (j k : ℕ) (s : Term) (e : List ℕ) (a b : Kind) → TypedAt ws ts j s → HasNoArrow ts k →
    Meets ts (node.Case j k) a b → IsTyped ws (term.AssertL s e) a b
unfolding TypedAt
assertl_typed ws ts _ _ s e _ _ left none (row.Case j k a b c d g h) = absurd (cc)
assertl_typed ws ts _ _ s e _ _ left none (row.AssertL j k a b c d g h) = row.TypedAssertL s e a b c d (left (Product a c) d g)
assertl_typed ws ts _ _ s e _ _ left none (row.AssertR j k a b c d g h) = absurd (cc)

assertr_typed : (ws : List Kind) (ts : Typing) (j k : ℕ) (e : List ℕ) (t : Term) (a b : Kind) → HasNoArrow ts j → TypedAt ws ts k t →
    Meets ts (node.Case j k) a b → IsTyped ws (term.AssertR e t) a b
unfolding TypedAt
assertr_typed ws ts _ _ e t _ _ none right (row.Case j k a b c d g h) = absurd (cc)
assertr_typed ws ts _ _ e t _ _ none right (row.AssertL j k a b c d g h) = absurd (cc)
assertr_typed ws ts _ _ e t _ _ none right (row.AssertR j k a b c d g h) = row.TypedAssertR e t a b c d (right (Product b c) d h)

fail_typed : (ws : List Kind) (ts : Typing) (e : List ℕ) (a b : Kind) → Meets ts (node.Fail e) a b → IsTyped ws (term.Fail e) a b
fail_typed ws ts _ _ _ (row.Fail e a b) = row.TypedFail e a b

word_typed : (ws : List Kind) (ts : Typing) (k n : ℕ) (a b : Kind) → Meets ts (node.Word k n) a b → IsTyped ws (term.Word k n) a b
word_typed ws ts _ _ _ _ (row.Word k n) = row.TypedWord k n

-- what unfolds stands there, and is shown
pub record Standing (ns : List Node) (i : ℕ) : Type 0 where
  pub node_there : Node
  pub there : slice_get ns i ≡ Some node_there
  pub shown : IsShown (Some node_there)

pub standing : (ns : List Node) (i : ℕ) (t : Term) → Unfolds ns i t → Standing ns i
standing ns _ _ (node.UnfoldIden i is) = record { node_there = node.Iden; there = is; shown = tt }
standing ns _ _ (node.UnfoldUnit i is) = record { node_there = node.UnitNode; there = is; shown = tt }
standing ns _ _ (node.UnfoldInjl i j t is on) = record { node_there = node.Injl j; there = is; shown = tt }
standing ns _ _ (node.UnfoldInjr i j t is on) = record { node_there = node.Injr j; there = is; shown = tt }
standing ns _ _ (node.UnfoldTake i j t is on) = record { node_there = node.Take j; there = is; shown = tt }
standing ns _ _ (node.UnfoldDrop i j t is on) = record { node_there = node.Drop j; there = is; shown = tt }
standing ns _ _ (node.UnfoldComp i j k s t is g h) = record { node_there = node.Comp j k; there = is; shown = tt }
standing ns _ _ (node.UnfoldCase i j k s t is g h) = record { node_there = node.Case j k; there = is; shown = tt }
standing ns _ _ (node.UnfoldAssertL i j k s e is g h) = record { node_there = node.Case j k; there = is; shown = tt }
standing ns _ _ (node.UnfoldAssertR i j k e t is g h) = record { node_there = node.Case j k; there = is; shown = tt }
standing ns _ _ (node.UnfoldPair i j k s t is g h) = record { node_there = node.Pair j k; there = is; shown = tt }
standing ns _ _ (node.UnfoldFail i e is) = record { node_there = node.Fail e; there = is; shown = tt }
standing ns _ _ (node.UnfoldWitness i is) = record { node_there = node.Witness; there = is; shown = tt }
standing ns _ _ (node.UnfoldWord i k n is) = record { node_there = node.Word k n; there = is; shown = tt }

pub unfolds_arrow : (ns : List Node) (ts : Typing) (i : ℕ) (t : Term) → IsTyping ns ts → Unfolds ns i t → HasNoArrow ts i → ⊥
unfolds_arrow ns ts i t h on none = let s = standing ns i t on in has_arrow ns ts i s.node_there h s.there s.shown none

pub unfolding_typed : (ns : List Node) (ts : Typing) (i : ℕ) (t : Term) → IsTyping ns ts → Unfolds ns i t → (a b : Kind) → HasArrow ts i a b →
    IsTyped (witness_targets ns ts) t a b
unfolding TypedAt
unfolding_typed ns ts _ _ h (node.UnfoldIden i is) a b has = iden_typed (witness_targets ns ts) ts a b (meets_at ts ns i node.Iden a b h is has)
unfolding_typed ns ts _ _ h (node.UnfoldUnit i is) a b has = unit_typed (witness_targets ns ts) ts a b (meets_at ts ns i node.UnitNode a b h is has)
unfolding_typed ns ts _ _ h (node.UnfoldInjl i j t is on) a b has =
    injl_typed (witness_targets ns ts) ts j t a b (unfolding_typed ns ts j t h on) (meets_at ts ns i (node.Injl j) a b h is has)
unfolding_typed ns ts _ _ h (node.UnfoldInjr i j t is on) a b has =
    injr_typed (witness_targets ns ts) ts j t a b (unfolding_typed ns ts j t h on) (meets_at ts ns i (node.Injr j) a b h is has)
unfolding_typed ns ts _ _ h (node.UnfoldTake i j t is on) a b has =
    take_typed (witness_targets ns ts) ts j t a b (unfolding_typed ns ts j t h on) (meets_at ts ns i (node.Take j) a b h is has)
unfolding_typed ns ts _ _ h (node.UnfoldDrop i j t is on) a b has =
    drop_typed (witness_targets ns ts) ts j t a b (unfolding_typed ns ts j t h on) (meets_at ts ns i (node.Drop j) a b h is has)
unfolding_typed ns ts _ _ h (node.UnfoldComp i j k s t is g on) a b has =
    comp_typed (witness_targets ns ts) ts j k s t a b (unfolding_typed ns ts j s h g) (unfolding_typed ns ts k t h on)
    (meets_at ts ns i (node.Comp j k) a b h is has)
unfolding_typed ns ts _ _ h (node.UnfoldCase i j k s t is g on) a b has =
    case_typed (witness_targets ns ts) ts j k s t a b (unfolding_typed ns ts j s h g) (unfolding_typed ns ts k t h on)
    (unfolds_arrow ns ts j s h g) (unfolds_arrow ns ts k t h on) (meets_at ts ns i (node.Case j k) a b h is has)
unfolding_typed ns ts _ _ h (node.UnfoldAssertL i j k s e is g hidden) a b has =
    assertl_typed (witness_targets ns ts) ts j k s e a b (unfolding_typed ns ts j s h g) (hidden_at ts ns k e h hidden)
    (meets_at ts ns i (node.Case j k) a b h is has)
unfolding_typed ns ts _ _ h (node.UnfoldAssertR i j k e t is hidden on) a b has =
    assertr_typed (witness_targets ns ts) ts j k e t a b (hidden_at ts ns j e h hidden) (unfolding_typed ns ts k t h on)
    (meets_at ts ns i (node.Case j k) a b h is has)
unfolding_typed ns ts _ _ h (node.UnfoldPair i j k s t is g on) a b has =
    pair_typed (witness_targets ns ts) ts j k s t a b (unfolding_typed ns ts j s h g) (unfolding_typed ns ts k t h on)
    (meets_at ts ns i (node.Pair j k) a b h is has)
unfolding_typed ns ts _ _ h (node.UnfoldFail i e is) a b has = fail_typed (witness_targets ns ts) ts e a b (meets_at ts ns i (node.Fail e) a b h is has)
unfolding_typed ns ts _ _ h (node.UnfoldWitness i is) a b has =
    row.TypedWitness (witness_number ns i) a b (witness_target ts ns ts i a b h is has)
unfolding_typed ns ts _ _ h (node.UnfoldWord i k n is) a b has = word_typed (witness_targets ns ts) ts k n a b (meets_at ts ns i (node.Word k n) a b h is has)

-- the tree of a node of a placed and typed list has the node's arrow
pub shown_unless_hidden : (ns : List Node) (ts : Typing) (i : ℕ) (a b : Kind) (n : Node) → IsTyping ns ts → HasArrow ts i a b → slice_get ns i ≡ Some n → Seen n →
    IsShown (Some n)
shown_unless_hidden ns ts i a b n h has is (SeenShown shown) = shown
shown_unless_hidden ns ts i a b n h has is (SeenHidden e same) =
    let none : HasNoArrow ts i = hidden_at ts ns i e h (is ∙ ap Some same) in
    absurd (cc)

pub trees_are_typed : (ns : List Node) (ts : Typing) (i : ℕ) (a b : Kind) → IsPlaced ns → IsTyping ns ts → HasArrow ts i a b →
    IsTyped (witness_targets ns ts) (tree_of_node ns i) a b
trees_are_typed ns ts i a b placed h has =
    let there = some_node ts ns ts i (Some (arrow a b)) h has in
    let shown : IsShown (Some there.0) = shown_unless_hidden ns ts i a b there.0 h has there.1 (seen there.0) in
    let at : IsShown (slice_get ns i) = subst IsShown (sym there.1) shown in
    unfolding_typed ns ts i (tree_of_node ns i) h (nodes_unfold ns i placed at) a b has
