-- Where a placed list's children stand, and the bits of one node more.
use Rattle.std.proofs.Common.{◌≡◌, ℕ, zero, suc, ◌+◌, ◌<◌, List, [], ◌∷◌, ◌++◌, length, take, get_or, Bool, Some, None, slice_get, refl, ap, sym, ◌∙◌, subst, arith, append_assoc, append-nil, length-append, add-one, length-take, Option, IsSome}
use Rattle.simplicity.specs.Nodes as node
use Rattle.simplicity.specs.Nodes.{Node, CanFollow, PlacedAfter, IsPlaced, IsShown, AreCaseSides, AreUnder, children}
use Rattle.simplicity.specs.Spelling.{node_bits, nodes_bits}
use Rattle.term_core.specs.Nodes.{node_of, nodes_of}
use Rattle.term_core.specs.declared.list_node.ListNode.{ListNode}

shown_within : (ns : List Node) (i : ℕ) → IsShown (slice_get ns i) → i < length ns
shown_within [] i shown = absurd shown
shown_within (n ∷ ns) zero shown = omega arith
shown_within (n ∷ ns) (suc i) shown = omega (arith, shown_within ns i shown)

there_within : (ns : List Node) (i : ℕ) → IsSome (slice_get ns i) → i < length ns
there_within [] i there = cc
there_within (n ∷ ns) zero there = omega arith
there_within (n ∷ ns) (suc i) there = omega (arith, there_within ns i there)

sides_there : (s t : Option Node) → AreCaseSides s t → IsSome s × IsSome t
sides_there None t h = absurd h
sides_there (Some s) (Some t) h = (refl, refl)
sides_there (Some s) None h = absurd h

-- a node's children stand among those that it follows
follows_children : (ns : List Node) (n : Node) → CanFollow ns n → AreUnder (length ns) (children n)
follows_children ns (node.Injl i) h = (shown_within ns i h, tt)
follows_children ns (node.Injr i) h = (shown_within ns i h, tt)
follows_children ns (node.Take i) h = (shown_within ns i h, tt)
follows_children ns (node.Drop i) h = (shown_within ns i h, tt)
follows_children ns (node.Comp i j) h = (shown_within ns i h.0, (shown_within ns j h.1, tt))
follows_children ns (node.Pair i j) h = (shown_within ns i h.0, (shown_within ns j h.1, tt))
follows_children ns (node.Case i j) h =
    let there : IsSome (slice_get ns i) × IsSome (slice_get ns j) = sides_there _ _ h in
    (there_within ns i there.0, (there_within ns j there.1, tt))
follows_children ns node.Iden h = tt
follows_children ns node.UnitNode h = tt
follows_children ns (node.Hidden b) h = tt
follows_children ns (node.Fail b) h = tt
follows_children ns node.Witness h = tt
follows_children ns (node.Word k n) h = tt

children_after : (before : List Node) (raw : List ListNode) (i : ℕ) (d : ListNode) → PlacedAfter before (nodes_of raw) → i < length raw → AreUnder (length before + i) (children (node_of (get_or raw i d)))
children_after before [] i d placed within = absurd (omega arith)
children_after before (m ∷ raw) zero d placed within = let e : length before + 0 ≡ length before = omega arith in rw e (follows_children before (node_of m) placed.0)
children_after before (m ∷ raw) (suc i) d placed within =
    let e : length (before ++ node_of m ∷ []) + i ≡ length before + suc i = omega (arith, length-append before (node_of m ∷ [])) in
    rw e at (children_after (before ++ node_of m ∷ []) raw i d placed.1 (omega arith))

-- in a placed list the children of the node at a place stand before it
pub children_placed : (raw : List ListNode) (ns : List Node) (i : ℕ) (n : ListNode) → n ≡ get_or raw i n → nodes_of raw ≡ ns → IsPlaced ns → i < length raw → AreUnder i (children (node_of n))
children_placed raw ns i n there is placed within =
    let e : 0 + i ≡ i = omega arith in
    let at : AreUnder i (children (node_of (get_or raw i n))) = rw e at (children_after [] raw i n (rw is placed) within) in
    let P : ListNode → Type 0 = λ m. AreUnder i (children (node_of m)) in
    subst P (sym there) at

nodes_bits-append : (k : ℕ) (xs ys : List Node) → nodes_bits k (xs ++ ys) ≡ nodes_bits k xs ++ nodes_bits (k + length xs) ys
nodes_bits-append k [] ys = let e : k + 0 ≡ k = omega arith in rw e refl
nodes_bits-append k (x ∷ xs) ys =
    let e : k + 1 + length xs ≡ k + suc (length xs) = omega arith in
    rw (nodes_bits-append (k + 1) xs ys, e, append_assoc) refl

length-nodes : (raw : List ListNode) → length (nodes_of raw) ≡ length raw
length-nodes [] = refl
length-nodes (m ∷ raw) = ap suc (length-nodes raw)

take-nodes : (raw : List ListNode) (i : ℕ) (d : ListNode) → i < length raw → take (suc i) (nodes_of raw) ≡ take i (nodes_of raw) ++ node_of (get_or raw i d) ∷ []
take-nodes [] i d within = absurd (omega arith)
take-nodes (m ∷ raw) zero d within = refl
take-nodes (m ∷ raw) (suc i) d within = ap (λ rest. node_of m ∷ rest) (take-nodes raw i d (omega arith))

-- the bits of the nodes up to a place, and of one node more
pub written_next : (raw : List ListNode) (ns : List Node) (i : ℕ) (n : ListNode) (start old new : List Bool) → n ≡ get_or raw i n → nodes_of raw ≡ ns → i < length raw → old ≡ start ++ nodes_bits 0 (take i ns) → new ≡ old ++ node_bits i (node_of n) → new ≡ start ++ nodes_bits 0 (take (i + 1) ns)
written_next raw ns i n start old new there is within before after =
    let few : length (take i (nodes_of raw)) ≡ i = omega (arith, length-take i (nodes_of raw), length-nodes raw) in
    let none : 0 + i ≡ i = omega arith in
    let last : take (suc i) (nodes_of raw) ≡ take i (nodes_of raw) ++ node_of n ∷ [] =
    take-nodes raw i n within ∙ ap (λ m. take i (nodes_of raw) ++ node_of m ∷ []) (sym there) in
    rw (after, before, ← is, add-one, last, nodes_bits-append 0 (take i (nodes_of raw)) (node_of n ∷ []), few, none) (simp (append_assoc, append-nil))
