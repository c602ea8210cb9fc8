-- Entries whose children stand before them make a placed list.
use Rattle.std.proofs.Common.{◌≡◌, ℕ, zero, suc, ◌<◌, ◌≤◌, List, [], ◌∷◌, ◌++◌, length, take, get_or, slice_get, Some, arith, refl, ap, sym, subst, append_assoc}
use Rattle.std.proofs.lemmas.Option.{slice_get-get_or}
use Rattle.simplicity.specs.Nodes.{AreUnder, Node, IsShown, CanFollow, PlacedAfter, IsPlaced, children}
use Rattle.small_terms.specs.Kinds.{node_of}
use Rattle.small_terms.specs.declared.entries.SmallNode.TheVariants as code
use Rattle.small_terms.specs.declared.entries.SmallNode.{SmallNode}
use Rattle.small_terms.specs.declared.entries.Entry.{Entry}
use Rattle.small_terms.specs.Entries.{AreBelow, entry_node, entry_nodes}

pub shown_node : (n : SmallNode) → IsShown (Some (node_of n))
shown_node code.Iden = tt
shown_node (code.Take i) = tt
shown_node (code.Drop i) = tt
shown_node (code.Pair i j) = tt

shown : (es : List Entry) (n i : ℕ) → i < n → n ≤ length es → IsShown (slice_get (entry_nodes (take n es)) i)
shown [] n i less within = absurd (omega arith)
shown (e ∷ es) zero i less within = absurd (omega arith)
shown (e ∷ es) (suc n) zero less within = shown_node e.node
shown (e ∷ es) (suc n) (suc i) less within = shown es n i (omega arith) (omega arith)

follows : (es : List Entry) (at : ℕ) (n : SmallNode) → at ≤ length es → AreUnder at (children (node_of n)) → CanFollow (entry_nodes (take at es)) (node_of n)
follows es at code.Iden within below = tt
follows es at (code.Take i) within below = shown es at i below.0 within
follows es at (code.Drop i) within below = shown es at i below.0 within
follows es at (code.Pair i j) within below = (shown es at i below.0 within, shown es at j below.1.0 within)

-- the node of an entry may follow those before it
pub entry_follows : (es : List Entry) (at : ℕ) (d : Entry) (nodes : List Node) → AreBelow es → at < length es → nodes ≡ entry_nodes (take at es) → CanFollow nodes (node_of (get_or es at d).node)
entry_follows es at d nodes below within is = rw is (follows es at (get_or es at d).node (omega arith) (below.below at (get_or es at d) (slice_get-get_or es at d within)))

take_whole : (es : List Entry) → take (length es) es ≡ es
take_whole [] = refl
take_whole (e ∷ es) = ap (λ (l : List Entry). e ∷ l) (take_whole es)

get_next : (before : List Entry) (e : Entry) (es : List Entry) → slice_get (before ++ e ∷ es) (length before) ≡ Some e
get_next [] e es = refl
get_next (b ∷ before) e es = get_next before e es

nodes_more : (before : List Entry) (e : Entry) → entry_nodes (before ++ e ∷ []) ≡ entry_nodes before ++ entry_node e ∷ []
nodes_more [] e = refl
nodes_more (b ∷ before) e = ap (λ (l : List Node). entry_node b ∷ l) (nodes_more before e)

placed_after : (before es : List Entry) → AreBelow (before ++ es) → PlacedAfter (entry_nodes before) (entry_nodes es)
placed_after before [] below = tt
placed_after before (e ∷ es) below =
    let under = below.below (length before) e (get_next before e es) in
    let more : (before ++ e ∷ []) ++ es ≡ before ++ (e ∷ es) = append_assoc before (e ∷ []) es in (
      subst (λ (l : List Entry). CanFollow (entry_nodes l) (entry_node e)) (take_whole before) (follows before (length before) e.node (omega arith) under),
      subst (λ (l : List Node). PlacedAfter l (entry_nodes es)) (nodes_more before e) (placed_after (before ++ e ∷ []) es (subst AreBelow (sym more) below)),
    )

-- the nodes of entries whose children stand before them are a placed list
pub placed : (es : List Entry) → AreBelow es → IsPlaced (entry_nodes es)
placed es below = placed_after [] es below
