-- Each emitted node unfolds to its plan's term.
use Rattle.std.proofs.Common.{◌≡◌, ℕ, zero, suc, ◌+◌, ◌<◌, List, [], ◌∷◌, ◌++◌, length, slice_get, Some, refl, sym, ap, ◌∙◌, arith, length-append, append_assoc, append-nil}
use Rattle.std.proofs.lemmas.List.{map-append}
use Rattle.simplicity.specs.Nodes.{AreUnder, Node, children, Part, part_at, part_of, parts, parts_from, count_after, tree_of_node}
use Rattle.small_terms.specs.Kinds.{node_of}
use Rattle.small_terms.specs.declared.entries.SmallNode.TheVariants as code
use Rattle.small_terms.specs.declared.entries.SmallNode.{SmallNode}
use Rattle.small_terms.specs.declared.entries.Entry.{Entry}
use Rattle.small_terms.specs.Emitting.{Emits, whole, first, rest, both}
use Rattle.small_terms.specs.Entries.{AreBelow, entry_node, entry_nodes}
use Rattle.small_terms.specs.Plan.{Plan, term_of}
use Rattle.small_terms.proofs.Lists.{get_next, get_parts}
use Rattle.small_terms.proofs.Grown.{IsGrown, grown_on, adds_there, adds_grown, emits_grown, emits_within, emits_below}

-- parts only grow
parts_grow : (ps : List Part) (w : ℕ) (ns : List Node) → (more : List Part) × (parts_from ps w ns ≡ ps ++ more)
parts_grow ps w [] = ([], sym (append-nil ps))
parts_grow ps w (n ∷ ns) =
    let g : (more : List Part) × (parts_from (ps ++ part_of ps w n ∷ []) (count_after n w) ns ≡ (ps ++ part_of ps w n ∷ []) ++ more) = parts_grow (ps ++ part_of ps w n ∷ []) (count_after n w) ns in
    (part_of ps w n ∷ g.0, g.1 ∙ append_assoc ps (part_of ps w n ∷ []) g.0)

parts_length : (ps : List Part) (w : ℕ) (ns : List Node) → length (parts_from ps w ns) ≡ length ps + length ns
parts_length ps w [] = omega arith
parts_length ps w (n ∷ ns) = omega (arith, parts_length (ps ++ part_of ps w n ∷ []) (count_after n w) ns, length-append ps (part_of ps w n ∷ []))

parts_after : (ps : List Part) (w : ℕ) (ns ms : List Node) → (v : ℕ) × (parts_from ps w (ns ++ ms) ≡ parts_from (parts_from ps w ns) v ms)
parts_after ps w [] ms = (w, refl)
parts_after ps w (n ∷ ns) ms = parts_after (ps ++ part_of ps w n ∷ []) (count_after n w) ns ms

part_at_more : (ps more : List Part) (i : ℕ) → i < length ps → part_at (ps ++ more) i ≡ part_at ps i
part_at_more [] more i less = absurd (omega arith)
part_at_more (p ∷ ps) more zero less = refl
part_at_more (p ∷ ps) more (suc i) less = part_at_more ps more i (omega arith)

-- the nodes of these entries take no witness, so their parts don't depend on how many stand before
part_same : (ps qs : List Part) (v w at : ℕ) (n : SmallNode) → AreUnder at (children (node_of n)) → ((i : ℕ) → i < at → part_at ps i ≡ part_at qs i) → part_of ps v (node_of n) ≡ part_of qs w (node_of n)
part_same ps qs v w at code.Iden below same = refl
part_same ps qs v w at (code.Take i) below same = rw (same i below.0) refl
part_same ps qs v w at (code.Drop i) below same = rw (same i below.0) refl
part_same ps qs v w at (code.Pair i j) below same = rw (same i below.0, same j below.1.0) refl

pub length-entry_nodes : (es : List Entry) → length (entry_nodes es) ≡ length es
length-entry_nodes [] = refl
length-entry_nodes (e ∷ es) = ap suc (length-entry_nodes es)

-- a part of the front entries is one of all
front_part : (es more : List Entry) (i : ℕ) → i < length es → part_at (parts (entry_nodes (es ++ more))) i ≡ part_at (parts (entry_nodes es)) i
front_part es more i less =
    let a : (v : ℕ) × (parts_from [] 0 (entry_nodes es ++ entry_nodes more) ≡ parts_from (parts (entry_nodes es)) v (entry_nodes more)) = parts_after [] 0 (entry_nodes es) (entry_nodes more) in
    let g : (stuff : List Part) × (parts_from (parts (entry_nodes es)) a.0 (entry_nodes more) ≡ parts (entry_nodes es) ++ stuff) = parts_grow (parts (entry_nodes es)) a.0 (entry_nodes more) in
    let long : i < length (parts (entry_nodes es)) = omega (arith, parts_length [] 0 (entry_nodes es), length-entry_nodes es) in
    rw (map-append, a.1, g.1) (part_at_more (parts (entry_nodes es)) g.0 i long)

-- the part after the parts before it
part_next : (ps : List Part) (p : Part) (i : ℕ) → length ps ≡ i → part_at (ps ++ p ∷ []) i ≡ p
part_next ps p i long = rw (← long, get_next ps [] p) refl

unfolds_split : (front back : List Entry) (e : Entry) → AreUnder (length front) (children (entry_node e)) → part_at (parts (entry_nodes (front ++ e ∷ back))) (length front) ≡ part_of (parts (entry_nodes (front ++ e ∷ back))) 0 (entry_node e)
unfolds_split front back e below =
    let longer : front ++ e ∷ back ≡ (front ++ e ∷ []) ++ back = sym (append_assoc front (e ∷ []) back) in
    let here : length front < length (front ++ e ∷ []) = omega (arith, length-append front (e ∷ [])) in
    let a : (v : ℕ) × (parts_from [] 0 (entry_nodes front ++ entry_node e ∷ []) ≡ parts_from (parts (entry_nodes front)) v (entry_node e ∷ [])) = parts_after [] 0 (entry_nodes front) (entry_node e ∷ []) in
    let long : length (parts (entry_nodes front)) ≡ length front = omega (arith, parts_length [] 0 (entry_nodes front), length-entry_nodes front) in
    let one : part_at (parts (entry_nodes (front ++ e ∷ back))) (length front) ≡ part_at (parts (entry_nodes (front ++ e ∷ []))) (length front) = rw longer (front_part (front ++ e ∷ []) back (length front) here) in
    let two : part_at (parts (entry_nodes (front ++ e ∷ []))) (length front) ≡ part_of (parts (entry_nodes front)) a.0 (entry_node e) = rw (map-append, a.1) (part_next (parts (entry_nodes front)) _ (length front) long) in
    one ∙ two ∙ part_same (parts (entry_nodes front)) (parts (entry_nodes (front ++ e ∷ back))) a.0 0 (length front) e.node below (λ i less. sym (front_part front (e ∷ back) i less))

unfolds_at : (es front back : List Entry) (at : ℕ) (e : Entry) → es ≡ front ++ e ∷ back → length front ≡ at → AreUnder at (children (entry_node e)) → part_at (parts (entry_nodes es)) at ≡ part_of (parts (entry_nodes es)) 0 (entry_node e)
unfolds_at es front back at e is long below = rw (is, ← long) (unfolds_split front back e (rw long below))

-- what an entry stands for, by its children's parts
pub unfolds : (es : List Entry) (at : ℕ) (e : Entry) → AreBelow es → slice_get es at ≡ Some e → part_at (parts (entry_nodes es)) at ≡ part_of (parts (entry_nodes es)) 0 (entry_node e)
unfolds es at e below there =
    let p : (front : List Entry) × (back : List Entry) × (es ≡ front ++ e ∷ back) × (length front ≡ at) = get_parts es at e there in
    unfolds_at es p.0 p.1 at e p.2 p.3 (below.below at e there)

-- a node's tree stays as entries are added
pub tree_stays : (old new : List Entry) (at : ℕ) → IsGrown old new → at < length old → tree_of_node (entry_nodes new) at ≡ tree_of_node (entry_nodes old) at
tree_stays old new at grown less = rw (grown.1, front_part old grown.0 at less) refl

-- an emitted plan's node unfolds to its term
pub emits_tree : {old new : List Entry} {plan : Plan} {at : ℕ} → AreBelow old → Emits old plan new at → tree_of_node (entry_nodes new) at ≡ term_of plan
emits_tree {new = new} {at = at} below (whole a) = rw (unfolds new at _ (emits_below below (whole a)) (adds_there a)) refl
emits_tree {new = new} {at = at} below (first {one = one} {child = child} p a) =
    let stays : tree_of_node (entry_nodes new) child ≡ tree_of_node (entry_nodes one) child = tree_stays one new child (adds_grown a) (emits_within p) in
    rw (unfolds new at _ (emits_below below (first p a)) (adds_there a), stays, emits_tree below p) refl
emits_tree {new = new} {at = at} below (rest {one = one} {child = child} p a) =
    let stays : tree_of_node (entry_nodes new) child ≡ tree_of_node (entry_nodes one) child = tree_stays one new child (adds_grown a) (emits_within p) in
    rw (unfolds new at _ (emits_below below (rest p a)) (adds_there a), stays, emits_tree below p) refl
emits_tree {new = new} {at = at} below (both {one = one} {two = two} {left = left} {right = right} p q a) =
    let left_stays : tree_of_node (entry_nodes new) left ≡ tree_of_node (entry_nodes one) left = tree_stays one new left (grown_on one two new (emits_grown q) (adds_grown a)) (emits_within p) in
    let right_stays : tree_of_node (entry_nodes new) right ≡ tree_of_node (entry_nodes two) right = tree_stays two new right (adds_grown a) (emits_within q) in
    rw (unfolds new at _ (emits_below below (both p q a)) (adds_there a), left_stays, right_stays, emits_tree below p, emits_tree (emits_below below p) q) refl
