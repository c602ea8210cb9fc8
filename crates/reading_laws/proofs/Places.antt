-- A node is refused for its place exactly where a hidden child stands where none may.
use Rattle.std.proofs.Common.{◌≡◌, refl, ap, sym, subst, ◌∙◌, ℕ, ◌<◌, ◌^◌, ◌⊎◌, inl, inr, Bool, true, false, cond, ◌&&◌, ◌||◌, List, [], ◌∷◌, length, Option, Some, None, slice_get}
use Rattle.simplicity.specs.Nodes as node
use Rattle.simplicity.specs.Nodes.{Node, children, IsHidden}
use Rattle.spelling.specs.Reading.{Got, Refused, Refusal, HiddenPlace, BothHidden, Reading, then, is_hidden, some_hidden, in_place, read_node}
use Rattle.spelling.specs.Stops.{IsNextRefused}
use Rattle.spelling.proofs.Nodes.{node_gets, node_only}
use Rattle.spelling.proofs.NamedNodes.{refusals_are_named}
use Rattle.reading_laws.specs.Programs.{SomeHidden, IsCase, StandsAfter, NextStops, NodeRefused, ChildHidden, SidesHidden}

pub hidden_of : (o : Option Node) → is_hidden o ≡ true → IsHidden o
hidden_of None e = absurd (cc)
hidden_of (Some (node.Hidden x)) e = tt
hidden_of (Some _) e = absurd (cc)

pub is_so : (o : Option Node) → IsHidden o → is_hidden o ≡ true
is_so None h = elim h [ ]
is_so (Some (node.Hidden x)) h = refl
is_so (Some _) h = elim h [ ]

or_true : (a b : Bool) → (a || b) ≡ true → (a ≡ true) ⊎ (b ≡ true)
or_true true b e = inl refl
or_true false b e = inr e

or_any : (a : Bool) → (a || true) ≡ true
or_any true = refl
or_any false = refl

and_true : (a b : Bool) → (a && b) ≡ true → (a ≡ true) × (b ≡ true)
and_true true b e = (refl, e)
and_true false b e = absurd (cc)

some_of : (ns : List Node) (is : List ℕ) → some_hidden ns is ≡ true → SomeHidden ns is
some_of ns [] e = absurd (cc)
some_of ns (i ∷ is) e = elim (or_true (is_hidden (slice_get ns i)) (some_hidden ns is) e) [
  | inl g ↦ inl (hidden_of (slice_get ns i) g)
  | inr g ↦ inr (some_of ns is g)
]

some_so : (ns : List Node) (is : List ℕ) → SomeHidden ns is → some_hidden ns is ≡ true
some_so ns [] h = elim h [ ]
some_so ns (i ∷ is) (inl h) = ap (λ b. b || some_hidden ns is) (is_so (slice_get ns i) h)
some_so ns (i ∷ is) (inr h) = ap (λ b. is_hidden (slice_get ns i) || b) (some_so ns is h) ∙ or_any (is_hidden (slice_get ns i))

-- of a node that is no case
others : (ns : List Node) (n : Node) (at : ℕ) (bits : List Bool) → (IsCase n → ⊥) →
    in_place ns n at bits ≡ cond (some_hidden ns (children n)) (Refused (HiddenPlace (length ns))) (Got n at bits)
others ns node.Iden at bits h = refl
others ns node.UnitNode at bits h = refl
others ns node.Witness at bits h = refl
others ns (node.Hidden x) at bits h = refl
others ns (node.Fail x) at bits h = refl
others ns (node.Word k m) at bits h = refl
others ns (node.Injl l) at bits h = refl
others ns (node.Injr l) at bits h = refl
others ns (node.Take l) at bits h = refl
others ns (node.Drop l) at bits h = refl
others ns (node.Comp l r) at bits h = refl
others ns (node.Pair l r) at bits h = refl
others ns (node.Case l r) at bits h = elim (h tt) [ ]

pub cond_refused : {A : Type 0} (t : Bool) (q r : Refusal) (a : A) (at : ℕ) (bits : List Bool) → cond t (Refused q) (Got a at bits) ≡ Refused r →
    (t ≡ true) × (r ≡ q)
cond_refused true q r a at bits e = (refl, cc)
cond_refused false q r a at bits e = absurd (cc)

data PlaceStops (ns : List Node) (n : Node) (r : Refusal) : Type 0 where
  ForChild : (IsCase n → ⊥) → SomeHidden ns (children n) → r ≡ HiddenPlace (length ns) → PlaceStops ns n r
  ForSides : (i j : ℕ) → n ≡ node.Case i j → IsHidden (slice_get ns i) → IsHidden (slice_get ns j) → r ≡ BothHidden (length ns) → PlaceStops ns n r

for_child : (ns : List Node) (n : Node) (at : ℕ) (bits : List Bool) (r : Refusal) → (IsCase n → ⊥) → in_place ns n at bits ≡ Refused r →
    PlaceStops ns n r
for_child ns n at bits r not e =
    let test = cond_refused (some_hidden ns (children n)) (HiddenPlace (length ns)) r n at bits (sym (others ns n at bits not) ∙ e) in
    ForChild not (some_of ns (children n) test.0) test.1

place_refused : (ns : List Node) (n : Node) (at : ℕ) (bits : List Bool) (r : Refusal) → in_place ns n at bits ≡ Refused r → PlaceStops ns n r
place_refused ns node.Iden at bits r e = for_child ns node.Iden at bits r (λ h. h) e
place_refused ns node.UnitNode at bits r e = for_child ns node.UnitNode at bits r (λ h. h) e
place_refused ns node.Witness at bits r e = for_child ns node.Witness at bits r (λ h. h) e
place_refused ns (node.Hidden x) at bits r e = for_child ns (node.Hidden x) at bits r (λ h. h) e
place_refused ns (node.Fail x) at bits r e = for_child ns (node.Fail x) at bits r (λ h. h) e
place_refused ns (node.Word k m) at bits r e = for_child ns (node.Word k m) at bits r (λ h. h) e
place_refused ns (node.Injl i) at bits r e = for_child ns (node.Injl i) at bits r (λ h. h) e
place_refused ns (node.Injr i) at bits r e = for_child ns (node.Injr i) at bits r (λ h. h) e
place_refused ns (node.Take i) at bits r e = for_child ns (node.Take i) at bits r (λ h. h) e
place_refused ns (node.Drop i) at bits r e = for_child ns (node.Drop i) at bits r (λ h. h) e
place_refused ns (node.Comp i j) at bits r e = for_child ns (node.Comp i j) at bits r (λ h. h) e
place_refused ns (node.Pair i j) at bits r e = for_child ns (node.Pair i j) at bits r (λ h. h) e
place_refused ns (node.Case i j) at bits r e =
    let test = cond_refused (is_hidden (slice_get ns i) && is_hidden (slice_get ns j)) (BothHidden (length ns)) r (node.Case i j) at bits e in
    let both = and_true (is_hidden (slice_get ns i)) (is_hidden (slice_get ns j)) test.0 in
    ForSides i j refl (hidden_of (slice_get ns i) both.0) (hidden_of (slice_get ns j) both.1) test.1

stopped : (ns : List Node) (n : Node) (at : ℕ) (bits : List Bool) (r : Refusal) → StandsAfter ns n bits → PlaceStops ns n r → NextStops ns at bits r
stopped ns n at bits r s (ForChild not some is) = subst (λ (x : Refusal). NextStops ns at bits x) (sym is) (ChildHidden n s not some)
stopped ns n at bits r s (ForSides i j same one two is) =
    subst (λ (x : Refusal). NextStops ns at bits x) (sym is) (SidesHidden i j (subst (λ (m : Node). StandsAfter ns m bits) same s) one two)

pub next_only : (ns : List Node) (at : ℕ) (bits : List Bool) (r : Refusal) → IsNextRefused ns at bits r → NextStops ns at bits r
next_only ns at bits r (inl h) = NodeRefused r (refusals_are_named.node_only (length ns) at bits r h)
next_only ns at bits r (inr h) =
    let s = node_only (length ns) at h.1 bits h.2 h.0 h.3 in
    stopped ns h.0 at bits r (record { under = s.under; fits = s.fits; rest = h.2; stands = s.bits_are }) (place_refused ns h.0 h.1 h.2 r h.4)

-- a node that was read is refused, whatever follows
after_node : {A : Type 0} (ns : List Node) (n : Node) (at : ℕ) (bits : List Bool) (r : Refusal) (f : Node →
    Reading A) (s : StandsAfter ns n bits) → length ns < 2 ^ 32 →
    ((end : ℕ) → in_place ns n end s.rest ≡ Refused r) → then (read_node (length ns) at bits) (λ m at' bits'. then
    (in_place ns m at' bits') f) ≡ Refused r
after_node ns n at bits r f s few place =
    let got = node_gets (length ns) n at s.rest s.under s.fits few in
    ap (λ b. then (read_node (length ns) at b) (λ m at' bits'. then (in_place ns m at' bits') f)) s.stands
    ∙ ap (λ x. then x (λ m at' bits'. then (in_place ns m at' bits') f)) got.1 ∙ ap (λ x. then x f) (place got.0)

pub next_gets : {A : Type 0} (ns : List Node) (at : ℕ) (bits : List Bool) (r : Refusal) (f : Node → Reading A) → length ns < 2 ^ 32 →
    NextStops ns at bits r →
    then (read_node (length ns) at bits) (λ m at' bits'. then (in_place ns m at' bits') f) ≡ Refused r
next_gets ns at bits _ f few (NodeRefused r h) = ap (λ x. then x (λ m at' bits'. then (in_place ns m at' bits') f))
    (refusals_are_named.node_gets (length ns) at bits r h)
next_gets ns at bits _ f few (ChildHidden n s not some) =
    after_node ns n at bits (HiddenPlace (length ns)) f s few
    (λ end. others ns n end s.rest not ∙ ap (λ t. cond t (Refused (HiddenPlace (length ns))) (Got n end s.rest)) (some_so ns (children n) some))
next_gets ns at bits _ f few (SidesHidden i j s one two) =
    after_node ns (node.Case i j) at bits (BothHidden (length ns)) f s few
    (λ end. ap (λ t. cond (t && is_hidden (slice_get ns j)) (Refused (BothHidden (length ns))) (Got (node.Case i j) end s.rest)) (is_so
    (slice_get ns i) one)
    ∙ ap (λ t. cond t (Refused (BothHidden (length ns))) (Got (node.Case i j) end s.rest)) (is_so (slice_get ns j) two))
