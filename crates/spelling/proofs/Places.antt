-- A node passes the test of its place exactly where it may follow the nodes before it.
use Rattle.std.proofs.Common.{◌≡◌, refl, ap, sym, subst, ◌∙◌, ℕ, zero, suc, ◌<◌, Bool, true, false, cond, ◌&&◌, ◌||◌, List, [], ◌∷◌, length, take, Option, Some, None, slice_get, arith}
use Rattle.std.proofs.Math.Seq.{take-length}
use Rattle.simplicity.specs.Nodes as node
use Rattle.simplicity.specs.Nodes.{AreUnder, Node, children, CanFollow, IsShown, AreCaseSides}
use Rattle.simplicity.proofs.Unfold.{children_under}
use Rattle.spelling.specs.Reading.{Read, Got, Refused, Refusal, HiddenPlace, BothHidden, is_hidden, some_hidden, in_place}
use Rattle.spelling.proofs.Basics.{unless_got}

-- a node at an index of the list is there
pub get_there : (ns : List Node) (i : ℕ) → i < length ns → slice_get ns i ≡ None → ⊥
get_there [] i h e = omega arith
get_there (n ∷ ns) zero h e = absurd (cc)
get_there (n ∷ ns) (suc i) h e = get_there ns i (omega arith) e

-- shown is there and not hidden
pub not_hidden : (o : Option Node) → IsShown o → is_hidden o ≡ false
not_hidden None h = elim h [ ]
not_hidden (Some (node.Hidden x)) h = elim h [ ]
not_hidden (Some _) h = refl

pub shown_of : (o : Option Node) → (o ≡ None → ⊥) → is_hidden o ≡ false → IsShown o
shown_of None h e = h refl
shown_of (Some (node.Hidden x)) h e = absurd (cc)
shown_of (Some _) h e = tt

sides_not : (o p : Option Node) → AreCaseSides o p → (is_hidden o && is_hidden p) ≡ false
sides_not None p h = elim h [ ]
sides_not (Some (node.Hidden x)) None h = elim h [ ]
sides_not (Some (node.Hidden x)) (Some t) h = not_hidden (Some t) h
sides_not (Some _) p h = refl

sides_of : (o p : Option Node) → (o ≡ None → ⊥) → (p ≡ None → ⊥) → (is_hidden o && is_hidden p) ≡ false → AreCaseSides o p
sides_of None p h g e = elim (h refl) [ ]
sides_of (Some s) None h g e = elim (g refl) [ ]
sides_of (Some (node.Hidden x)) (Some t) h g e = shown_of (Some t) g e
sides_of (Some _) (Some t) h g e = tt

-- tests of one and of two children
or_false : (a b : Bool) → (a || b) ≡ false → (a ≡ false) × (b ≡ false)
or_false true b e = absurd (cc)
or_false false b e = (refl, e)

one_shown : (o : Option Node) → IsShown o → (is_hidden o || false) ≡ false
one_shown o h = ap (λ b. b || false) (not_hidden o h)

two_shown : (o p : Option Node) → IsShown o → IsShown p → (is_hidden o || (is_hidden p || false)) ≡ false
two_shown o p h g = ap (λ b. b || (is_hidden p || false)) (not_hidden o h) ∙ one_shown p g

passes : {A : Type 0} (t : Bool) (otherwise : Refusal) (r : Read A) → t ≡ false → cond t (Refused otherwise) r ≡ r
passes t otherwise r e = ap (λ x. cond x (Refused otherwise) r) e

pub place_gets : (ns : List Node) (n : Node) (at : ℕ) (bits : List Bool) → CanFollow ns n → in_place ns n at bits ≡ Got n at bits
place_gets ns node.Iden at bits h = refl
place_gets ns node.UnitNode at bits h = refl
place_gets ns node.Witness at bits h = refl
place_gets ns (node.Hidden x) at bits h = refl
place_gets ns (node.Fail x) at bits h = refl
place_gets ns (node.Word k m) at bits h = refl
place_gets ns (node.Injl l) at bits h = passes (some_hidden ns (l ∷ [])) (HiddenPlace (length ns)) (Got (node.Injl l) at bits) (one_shown (slice_get ns l) h)
place_gets ns (node.Injr l) at bits h = passes (some_hidden ns (l ∷ [])) (HiddenPlace (length ns)) (Got (node.Injr l) at bits) (one_shown (slice_get ns l) h)
place_gets ns (node.Take l) at bits h = passes (some_hidden ns (l ∷ [])) (HiddenPlace (length ns)) (Got (node.Take l) at bits) (one_shown (slice_get ns l) h)
place_gets ns (node.Drop l) at bits h = passes (some_hidden ns (l ∷ [])) (HiddenPlace (length ns)) (Got (node.Drop l) at bits) (one_shown (slice_get ns l) h)
place_gets ns (node.Comp l r) at bits h = passes (some_hidden ns (l ∷ r ∷ [])) (HiddenPlace (length ns)) (Got (node.Comp l r) at bits) (two_shown (slice_get ns l) (slice_get ns r) h.0 h.1)
place_gets ns (node.Pair l r) at bits h = passes (some_hidden ns (l ∷ r ∷ [])) (HiddenPlace (length ns)) (Got (node.Pair l r) at bits) (two_shown (slice_get ns l) (slice_get ns r) h.0 h.1)
place_gets ns (node.Case l r) at bits h = passes (is_hidden (slice_get ns l) && is_hidden (slice_get ns r)) (BothHidden (length ns)) (Got (node.Case l r) at bits) (sides_not (slice_get ns l) (slice_get ns r) h)

-- what the test lets through
one_of : (ns : List Node) (l : ℕ) → l < length ns → some_hidden ns (l ∷ []) ≡ false → IsShown (slice_get ns l)
one_of ns l h e = shown_of (slice_get ns l) (get_there ns l h) (or_false (is_hidden (slice_get ns l)) false e).0

two_of : (ns : List Node) (l r : ℕ) → l < length ns → r < length ns → some_hidden ns (l ∷ r ∷ []) ≡ false → IsShown (slice_get ns l) × IsShown (slice_get ns r)
two_of ns l r h g e =
    let parts = or_false (is_hidden (slice_get ns l)) (some_hidden ns (r ∷ [])) e in
    (shown_of (slice_get ns l) (get_there ns l h) parts.0, one_of ns r g parts.1)

pub place_only : (ns : List Node) (n m : Node) (at end : ℕ) (bits rest : List Bool) → AreUnder (length ns) (children n) → in_place ns n at bits ≡ Got m end rest →
    CanFollow ns n × (Got n at bits ≡ Got m end rest)
place_only ns node.Iden m at end bits rest h e = (tt, e)
place_only ns node.UnitNode m at end bits rest h e = (tt, e)
place_only ns node.Witness m at end bits rest h e = (tt, e)
place_only ns (node.Hidden x) m at end bits rest h e = (tt, e)
place_only ns (node.Fail x) m at end bits rest h e = (tt, e)
place_only ns (node.Word k j) m at end bits rest h e = (tt, e)
place_only ns (node.Injl l) m at end bits rest h e =
    let test = unless_got (some_hidden ns (l ∷ [])) (Got (node.Injl l) at bits) (HiddenPlace (length ns)) m end rest e in
    (one_of ns l h.0 test.0, test.1)
place_only ns (node.Injr l) m at end bits rest h e =
    let test = unless_got (some_hidden ns (l ∷ [])) (Got (node.Injr l) at bits) (HiddenPlace (length ns)) m end rest e in
    (one_of ns l h.0 test.0, test.1)
place_only ns (node.Take l) m at end bits rest h e =
    let test = unless_got (some_hidden ns (l ∷ [])) (Got (node.Take l) at bits) (HiddenPlace (length ns)) m end rest e in
    (one_of ns l h.0 test.0, test.1)
place_only ns (node.Drop l) m at end bits rest h e =
    let test = unless_got (some_hidden ns (l ∷ [])) (Got (node.Drop l) at bits) (HiddenPlace (length ns)) m end rest e in
    (one_of ns l h.0 test.0, test.1)
place_only ns (node.Comp l r) m at end bits rest h e =
    let test = unless_got (some_hidden ns (l ∷ r ∷ [])) (Got (node.Comp l r) at bits) (HiddenPlace (length ns)) m end rest e in
    (two_of ns l r h.0 h.1.0 test.0, test.1)
place_only ns (node.Pair l r) m at end bits rest h e =
    let test = unless_got (some_hidden ns (l ∷ r ∷ [])) (Got (node.Pair l r) at bits) (HiddenPlace (length ns)) m end rest e in
    (two_of ns l r h.0 h.1.0 test.0, test.1)
place_only ns (node.Case l r) m at end bits rest h e =
    let test = unless_got (is_hidden (slice_get ns l) && is_hidden (slice_get ns r)) (Got (node.Case l r) at bits) (BothHidden (length ns)) m end rest e in
    (sides_of (slice_get ns l) (slice_get ns r) (get_there ns l h.0) (get_there ns r h.1.0) test.0, test.1)

-- a node that may follow a list has its children in it
pub follow_under : (before : List Node) (n : Node) → CanFollow before n → AreUnder (length before) (children n)
follow_under before n h =
    let all : take (length before) before ≡ before = take-length before in
    children_under before (length before) n (subst (λ (l : List Node). CanFollow l n) (sym all) h)
