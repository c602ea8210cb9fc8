-- Each node of a placed and typed list does on the machine what its tree means, within its bounds.
use Rattle.std.proofs.Common.{◌≡◌, refl, ap, sym, subst, ◌∙◌, ℕ, ◌+◌, ◌≤◌, List, Option, Some, None, arith}
use Rattle.std.specs.Prelude.{slice_get}
use Rattle.simplicity.specs.Types.{Kind, One, Sum, Product, AreOf, size, pad_left, pad_right, word_kind}
use Rattle.simplicity.specs.Terms.{Term, Answer, meaning}
use Rattle.simplicity.specs.Terms as term
use Rattle.simplicity.specs.Nodes.{Node, IsPlaced, IsShown, Unfolds, witness_number}
use Rattle.simplicity.specs.Nodes as node
use Rattle.simplicity.specs.Typing.{Typing, Arrow, arrow, HasArrow, HasNoArrow, Meets, IsTyping, IsTyped, witness_targets, target_of, target_at}
use Rattle.simplicity.specs.Typing as row
use Rattle.simplicity.specs.Bounds.{Bounds, leaf, above, both, either, through, bounds_of, bounds_at, case_bounds, node_bounds, node_list_bounds}
use Rattle.simplicity.specs.Machine.{Program, Side, side_of}
use Rattle.simplicity.proofs.Typings.{meets_at, hidden_at}
use Rattle.simplicity.proofs.Trees.{standing, unfolds_arrow, witness_target}
use Rattle.simplicity.proofs.Meaning.{value_at}
use Rattle.simplicity.proofs.Listed.{bounds_there, bounds_hidden, bounds_are}
use Rattle.machine_laws.proofs.Forms.{Is, Does, iden_does, unit_does, take_does, drop_does, pair_does}
use Rattle.machine_laws.proofs.Tags.{injl_does, injr_does, witness_does, word_does, fail_does}
use Rattle.machine_laws.proofs.Sides.{SideDoes, case_does}
use Rattle.machine_laws.proofs.Between.{comp_does}

-- a placed and typed list with witnesses of its types
pub record IsFit (p : Program) : Type 0 where
  pub placed : IsPlaced p.nodes
  pub typed : IsTyping p.nodes p.typing
  pub witness : AreOf p.witness (witness_targets p.nodes p.typing)

abbrev pub listed : Program → List (Option Bounds)
listed p = node_list_bounds p.nodes p.typing

-- a node does what this term means at each arrow that it has
abbrev pub Can : Program → ℕ → Term → Type 0
Can p i t = (a b : Kind) → HasArrow p.typing i a b → Does p i t a b (bounds_at (listed p) i)

-- the node at an index, its arrow, and the node's bounds as the table has them
here : (p : Program) (i : ℕ) (n : Node) (t : Term) (a b : Kind) (m : Bounds) → IsFit p → slice_get p.nodes i ≡ Some n → HasArrow p.typing i a b →
    node_bounds p.typing (listed p) n a b ≡ m → Does p i t a b m → Does p i t a b (bounds_at (listed p) i)
here p i n t a b m fit is has e does =
    subst (λ (x : Bounds). Does p i t a b x) (sym (bounds_are p.nodes p.typing i n a b fit.placed is has ∙ e)) does

at : (p : Program) (i : ℕ) (n : Node) (a b : Kind) → slice_get p.nodes i ≡ Some n → HasArrow p.typing i a b → Is p i n a b
at p i n a b is has = record { node_there = is; arrow_there = has }

iden_can : (p : Program) (i : ℕ) (a b : Kind) → IsFit p → slice_get p.nodes i ≡ Some node.Iden → HasArrow p.typing i a b → Meets p.typing node.Iden a b →
    Does p i term.Iden a b (bounds_at (listed p) i)
iden_can p i _ _ fit is has (row.Iden a) = here p i node.Iden term.Iden a a (leaf (1 + size a)) fit is has refl (iden_does p i a (at p i node.Iden a a is has))

unit_can : (p : Program) (i : ℕ) (a b : Kind) → IsFit p → slice_get p.nodes i ≡ Some node.UnitNode → HasArrow p.typing i a b →
    Meets p.typing node.UnitNode a b → Does p i term.UnitTerm a b (bounds_at (listed p) i)
unit_can p i _ _ fit is has (row.UnitNode a) = here p i node.UnitNode term.UnitTerm a One (leaf 1) fit is has refl (unit_does p i a (at p i node.UnitNode a One is has))

injl_can : (p : Program) (i j : ℕ) (t : Term) (a d : Kind) → IsFit p → slice_get p.nodes i ≡ Some (node.Injl j) → HasArrow p.typing i a d → Can p j t →
    Meets p.typing (node.Injl j) a d → Does p i (term.Injl t) a d (bounds_at (listed p) i)
injl_can p i _ t _ _ fit is has can (row.Injl j a b c h) =
    here p i (node.Injl j) (term.Injl t) a (Sum b c) (above (2 + pad_left b c) (bounds_at (listed p) j)) fit is has refl
    (injl_does p i j t a b c (bounds_at (listed p) j) (at p i (node.Injl j) a (Sum b c) is has) (can a b h))

injr_can : (p : Program) (i j : ℕ) (t : Term) (a d : Kind) → IsFit p → slice_get p.nodes i ≡ Some (node.Injr j) → HasArrow p.typing i a d → Can p j t →
    Meets p.typing (node.Injr j) a d → Does p i (term.Injr t) a d (bounds_at (listed p) i)
injr_can p i _ t _ _ fit is has can (row.Injr j a b c h) =
    here p i (node.Injr j) (term.Injr t) a (Sum b c) (above (2 + pad_right b c) (bounds_at (listed p) j)) fit is has refl
    (injr_does p i j t a b c (bounds_at (listed p) j) (at p i (node.Injr j) a (Sum b c) is has) (can a c h))

take_can : (p : Program) (i j : ℕ) (t : Term) (d c : Kind) → IsFit p → slice_get p.nodes i ≡ Some (node.Take j) → HasArrow p.typing i d c → Can p j t →
    Meets p.typing (node.Take j) d c → Does p i (term.Take t) d c (bounds_at (listed p) i)
take_can p i _ t _ _ fit is has can (row.Take j a b c h) =
    here p i (node.Take j) (term.Take t) (Product a b) c (above 0 (bounds_at (listed p) j)) fit is has refl
    (take_does p i j t a b c (bounds_at (listed p) j) (at p i (node.Take j) (Product a b) c is has) (can a c h))

drop_can : (p : Program) (i j : ℕ) (t : Term) (d c : Kind) → IsFit p → slice_get p.nodes i ≡ Some (node.Drop j) → HasArrow p.typing i d c → Can p j t →
    Meets p.typing (node.Drop j) d c → Does p i (term.Drop t) d c (bounds_at (listed p) i)
drop_can p i _ t _ _ fit is has can (row.Drop j a b c h) =
    here p i (node.Drop j) (term.Drop t) (Product a b) c (above 2 (bounds_at (listed p) j)) fit is has refl
    (drop_does p i j t a b c (bounds_at (listed p) j) (at p i (node.Drop j) (Product a b) c is has) (can b c h))

comp_can : (p : Program) (i j k : ℕ) (s t : Term) (a c : Kind) → IsFit p → slice_get p.nodes i ≡ Some (node.Comp j k) → HasArrow p.typing i a c → Can p j s →
    Can p k t → Meets p.typing (node.Comp j k) a c → Does p i (term.Comp s t) a c (bounds_at (listed p) i)
comp_can p i _ _ s t _ _ fit is has left right (row.Comp j k a b c g h) =
    here p i (node.Comp j k) (term.Comp s t) a c (through (size b) (bounds_at (listed p) j) (bounds_at (listed p) k)) fit is has
    (ap (λ o. through (size (target_of o)) (bounds_at (listed p) j) (bounds_at (listed p) k)) g)
    (comp_does p i j k s t a b c (bounds_at (listed p) j) (bounds_at (listed p) k) (at p i (node.Comp j k) a c is has) g (left a b g) (right b c h))

pair_can : (p : Program) (i j k : ℕ) (s t : Term) (a d : Kind) → IsFit p → slice_get p.nodes i ≡ Some (node.Pair j k) → HasArrow p.typing i a d → Can p j s →
    Can p k t → Meets p.typing (node.Pair j k) a d → Does p i (term.PairTerm s t) a d (bounds_at (listed p) i)
pair_can p i _ _ s t _ _ fit is has left right (row.Pair j k a b c g h) =
    here p i (node.Pair j k) (term.PairTerm s t) a (Product b c) (both (bounds_at (listed p) j) (bounds_at (listed p) k)) fit is has refl
    (pair_does p i j k s t a b c (bounds_at (listed p) j) (bounds_at (listed p) k) (at p i (node.Pair j k) a (Product b c) is has) (left a b g) (right a c h))

fail_can : (p : Program) (i : ℕ) (e : List ℕ) (a b : Kind) → IsFit p → slice_get p.nodes i ≡ Some (node.Fail e) → HasArrow p.typing i a b →
    Does p i (term.Fail e) a b (bounds_at (listed p) i)
fail_can p i e a b fit is has = here p i (node.Fail e) (term.Fail e) a b (leaf 1) fit is has refl (fail_does p i e a b (at p i (node.Fail e) a b is has))

word_can : (p : Program) (i k n : ℕ) (a b : Kind) → IsFit p → slice_get p.nodes i ≡ Some (node.Word k n) → HasArrow p.typing i a b →
    Meets p.typing (node.Word k n) a b → Does p i (term.Word k n) a b (bounds_at (listed p) i)
word_can p i _ _ _ _ fit is has (row.Word k n) =
    here p i (node.Word k n) (term.Word k n) One (word_kind k) _ fit is has refl (word_does p i k n (at p i (node.Word k n) One (word_kind k) is has))

witness_can : (p : Program) (i : ℕ) (a b : Kind) → IsFit p → slice_get p.nodes i ≡ Some node.Witness → HasArrow p.typing i a b →
    Does p i (term.Witness (witness_number p.nodes i)) a b (bounds_at (listed p) i)
witness_can p i a b fit is has =
    let number : ℕ = witness_number p.nodes i in
    let ws : List Kind = witness_targets p.nodes p.typing in
    let target : slice_get ws number ≡ Some b = witness_target p.typing p.nodes p.typing i a b fit.typed is has in
    here p i node.Witness (term.Witness number) a b _ fit is has refl
    (witness_does p i a b (at p i node.Witness a b is has) (value_at ws p.witness number b fit.witness target))

-- the sides of a case
shown_side : (p : Program) (j pad : ℕ) (t : Term) (a d : Kind) (m : Bounds) (w c k : ℕ) → HasArrow p.typing j a d → Does p j t a d m → 3 + m.work ≤ w →
    m.cells ≤ c → m.frames ≤ k → SideDoes p (side_of j (1 + pad) (slice_get p.typing j)) pad (meaning t p.witness) a d w c k
shown_side p j pad t a d m w c k has does hw hc hk =
    subst (λ (s : Side). SideDoes p s pad (meaning t p.witness) a d w c k) (sym (ap (side_of j (1 + pad)) has)) (refl, (t, m, does, (λ v. refl), hw, hc, hk))

hidden_side : (p : Program) (j pad : ℕ) (a d : Kind) (w c k : ℕ) → HasNoArrow p.typing j →
    SideDoes p (side_of j (1 + pad) (slice_get p.typing j)) pad (λ _. None) a d w c k
hidden_side p j pad a d w c k none =
    subst (λ (s : Side). SideDoes p s pad (λ _. None) a d w c k) (sym (ap (side_of j (1 + pad)) none)) (λ v. refl)

-- the entries of the bounds of a case's sides
pub entry_shown : (p : Program) (j : ℕ) (n : Node) (a b : Kind) → IsFit p → slice_get p.nodes j ≡ Some n → HasArrow p.typing j a b →
    slice_get (listed p) j ≡ Some (Some (bounds_at (listed p) j))
entry_shown p j n a b fit is has =
    let e = bounds_there p.nodes p.typing j n a b fit.placed is has in
    e ∙ ap (λ (m : Bounds). Some (Some m)) (sym (ap bounds_of e))

pub both_sides : (bs : List (Option Bounds)) (j k : ℕ) → slice_get bs j ≡ Some (Some (bounds_at bs j)) → slice_get bs k ≡ Some (Some (bounds_at bs k)) →
    case_bounds (slice_get bs j) (slice_get bs k) ≡ either (bounds_at bs j) (bounds_at bs k)
both_sides bs j k e f = ap (λ o. case_bounds o (slice_get bs k)) e ∙ ap (λ o. case_bounds (Some (Some (bounds_at bs j))) o) f

pub left_side : (bs : List (Option Bounds)) (j k : ℕ) → slice_get bs j ≡ Some (Some (bounds_at bs j)) → slice_get bs k ≡ Some None →
    case_bounds (slice_get bs j) (slice_get bs k) ≡ above 3 (bounds_at bs j)
left_side bs j k e f = ap (λ o. case_bounds o (slice_get bs k)) e ∙ ap (λ o. case_bounds (Some (Some (bounds_at bs j))) o) f

pub right_side : (bs : List (Option Bounds)) (j k : ℕ) → slice_get bs j ≡ Some None → case_bounds (slice_get bs j) (slice_get bs k) ≡ above 3 (bounds_at bs k)
right_side bs j k e = ap (λ o. case_bounds o (slice_get bs k)) e

-- what unfolds stands there, and has an arrow
pub record Stands (p : Program) (i : ℕ) : Type 0 where
  pub node_there : Node
  pub there : slice_get p.nodes i ≡ Some node_there
  pub arrowed : HasNoArrow p.typing i → ⊥

stands : (p : Program) (i : ℕ) (t : Term) → IsFit p → Unfolds p.nodes i t → Stands p i
stands p i t fit unfolds =
    let there = standing p.nodes i t unfolds in
    record { node_there = there.node_there; there = there.there; arrowed = unfolds_arrow p.nodes p.typing i t fit.typed unfolds }

case_can : (p : Program) (i j k : ℕ) (s t : Term) (e d : Kind) → IsFit p → slice_get p.nodes i ≡ Some (node.Case j k) → HasArrow p.typing i e d → Can p j s →
    Can p k t → Stands p j → Stands p k → Meets p.typing (node.Case j k) e d → Does p i (term.Case s t) e d (bounds_at (listed p) i)
case_can p i _ _ s t _ _ fit is has left right sj sk (row.Case j k a b c d g h) =
    let m : Bounds = bounds_at (listed p) j in
    let n : Bounds = bounds_at (listed p) k in
    here p i (node.Case j k) (term.Case s t) (Product (Sum a b) c) d (either m n) fit is has
    (both_sides (listed p) j k (entry_shown p j sj.node_there (Product a c) d fit sj.there g) (entry_shown p k sk.node_there (Product b c) d fit sk.there h))
    (case_does p i j k a b c d (term.Case s t) (meaning s p.witness) (meaning t p.witness) (either m n) (at p i (node.Case j k) (Product (Sum a b) c) d is has) (λ v. refl)
    (shown_side p j (pad_left a b) s (Product a c) d m _ _ _ g (left (Product a c) d g) (omega arith) (omega arith) (omega arith))
    (shown_side p k (pad_right a b) t (Product b c) d n _ _ _ h (right (Product b c) d h) (omega arith) (omega arith) (omega arith)))
case_can p i _ _ s t _ _ fit is has left right sj sk (row.AssertL j k a b c d g h) = absurd (sk.arrowed h)
case_can p i _ _ s t _ _ fit is has left right sj sk (row.AssertR j k a b c d g h) = absurd (sj.arrowed g)

assertl_can : (p : Program) (i j k : ℕ) (s : Term) (bytes : List ℕ) (e d : Kind) → IsFit p → slice_get p.nodes i ≡ Some (node.Case j k) → HasArrow p.typing i e d →
    Can p j s → Stands p j → slice_get p.nodes k ≡ Some (node.Hidden bytes) → HasNoArrow p.typing k → Meets p.typing (node.Case j k) e d →
    Does p i (term.AssertL s bytes) e d (bounds_at (listed p) i)
assertl_can p i _ _ s bytes _ _ fit is has left sj hid none (row.Case j k a b c d g h) = absurd (cc)
assertl_can p i _ _ s bytes _ _ fit is has left sj hid none (row.AssertL j k a b c d g h) =
    let m : Bounds = bounds_at (listed p) j in
    here p i (node.Case j k) (term.AssertL s bytes) (Product (Sum a b) c) d (above 3 m) fit is has
    (left_side (listed p) j k (entry_shown p j sj.node_there (Product a c) d fit sj.there g) (bounds_hidden p.nodes p.typing k (node.Hidden bytes) hid h))
    (case_does p i j k a b c d (term.AssertL s bytes) (meaning s p.witness) (λ _. None) (above 3 m) (at p i (node.Case j k) (Product (Sum a b) c) d is has) (λ v. refl)
    (shown_side p j (pad_left a b) s (Product a c) d m _ _ _ g (left (Product a c) d g) (omega arith) (omega arith) (omega arith))
    (hidden_side p k (pad_right a b) (Product b c) d _ _ _ h))
assertl_can p i _ _ s bytes _ _ fit is has left sj hid none (row.AssertR j k a b c d g h) = absurd (cc)

assertr_can : (p : Program) (i j k : ℕ) (bytes : List ℕ) (t : Term) (e d : Kind) → IsFit p → slice_get p.nodes i ≡ Some (node.Case j k) → HasArrow p.typing i e d →
    Can p k t → slice_get p.nodes j ≡ Some (node.Hidden bytes) → HasNoArrow p.typing j → Meets p.typing (node.Case j k) e d →
    Does p i (term.AssertR bytes t) e d (bounds_at (listed p) i)
assertr_can p i _ _ bytes t _ _ fit is has right hid none (row.Case j k a b c d g h) = absurd (cc)
assertr_can p i _ _ bytes t _ _ fit is has right hid none (row.AssertL j k a b c d g h) = absurd (cc)
assertr_can p i _ _ bytes t _ _ fit is has right hid none (row.AssertR j k a b c d g h) =
    let n : Bounds = bounds_at (listed p) k in
    here p i (node.Case j k) (term.AssertR bytes t) (Product (Sum a b) c) d (above 3 n) fit is has
    (right_side (listed p) j k (bounds_hidden p.nodes p.typing j (node.Hidden bytes) hid g))
    (case_does p i j k a b c d (term.AssertR bytes t) (λ _. None) (meaning t p.witness) (above 3 n) (at p i (node.Case j k) (Product (Sum a b) c) d is has) (λ v. refl)
    (hidden_side p j (pad_left a b) (Product a c) d _ _ _ g)
    (shown_side p k (pad_right a b) t (Product b c) d n _ _ _ h (right (Product b c) d h) (omega arith) (omega arith) (omega arith)))

pub simulation : (p : Program) (i : ℕ) (t : Term) → IsFit p → Unfolds p.nodes i t → Can p i t
simulation p _ _ fit (node.UnfoldIden i is) a b has = iden_can p i a b fit is has (meets_at p.typing p.nodes i node.Iden a b fit.typed is has)
simulation p _ _ fit (node.UnfoldUnit i is) a b has = unit_can p i a b fit is has (meets_at p.typing p.nodes i node.UnitNode a b fit.typed is has)
simulation p _ _ fit (node.UnfoldInjl i j t is on) a b has =
    injl_can p i j t a b fit is has (simulation p j t fit on) (meets_at p.typing p.nodes i (node.Injl j) a b fit.typed is has)
simulation p _ _ fit (node.UnfoldInjr i j t is on) a b has =
    injr_can p i j t a b fit is has (simulation p j t fit on) (meets_at p.typing p.nodes i (node.Injr j) a b fit.typed is has)
simulation p _ _ fit (node.UnfoldTake i j t is on) a b has =
    take_can p i j t a b fit is has (simulation p j t fit on) (meets_at p.typing p.nodes i (node.Take j) a b fit.typed is has)
simulation p _ _ fit (node.UnfoldDrop i j t is on) a b has =
    drop_can p i j t a b fit is has (simulation p j t fit on) (meets_at p.typing p.nodes i (node.Drop j) a b fit.typed is has)
simulation p _ _ fit (node.UnfoldComp i j k s t is g on) a b has =
    comp_can p i j k s t a b fit is has (simulation p j s fit g) (simulation p k t fit on) (meets_at p.typing p.nodes i (node.Comp j k) a b fit.typed is has)
simulation p _ _ fit (node.UnfoldCase i j k s t is g on) a b has =
    case_can p i j k s t a b fit is has (simulation p j s fit g) (simulation p k t fit on) (stands p j s fit g) (stands p k t fit on)
    (meets_at p.typing p.nodes i (node.Case j k) a b fit.typed is has)
simulation p _ _ fit (node.UnfoldAssertL i j k s e is g hid) a b has =
    assertl_can p i j k s e a b fit is has (simulation p j s fit g) (stands p j s fit g) hid (hidden_at p.typing p.nodes k e fit.typed hid)
    (meets_at p.typing p.nodes i (node.Case j k) a b fit.typed is has)
simulation p _ _ fit (node.UnfoldAssertR i j k e t is hid on) a b has =
    assertr_can p i j k e t a b fit is has (simulation p k t fit on) hid (hidden_at p.typing p.nodes j e fit.typed hid)
    (meets_at p.typing p.nodes i (node.Case j k) a b fit.typed is has)
simulation p _ _ fit (node.UnfoldPair i j k s t is g on) a b has =
    pair_can p i j k s t a b fit is has (simulation p j s fit g) (simulation p k t fit on) (meets_at p.typing p.nodes i (node.Pair j k) a b fit.typed is has)
simulation p _ _ fit (node.UnfoldFail i e is) a b has = fail_can p i e a b fit is has
simulation p _ _ fit (node.UnfoldWitness i is) a b has = witness_can p i a b fit is has
simulation p _ _ fit (node.UnfoldWord i k n is) a b has = word_can p i k n a b fit is has (meets_at p.typing p.nodes i (node.Word k n) a b fit.typed is has)
