-- Emitted entries have no other typing with an arrow at their root, and none of them twice.
use Rattle.std.proofs.Common.{◌≡◌, ℕ, zero, suc, ◌<◌, ◌≤◌, Bool, true, false, nat_lt, List, [], ◌∷◌, ◌++◌, length, slice_get, Some, refl, sym, ap, ◌∙◌, arith, length-append, ◌⊎◌, inl, inr}
use Rattle.std.proofs.lemmas.Bool.Decides.{nat_tests}
use Rattle.simplicity.specs.Types.{Kind, Product}
use Rattle.simplicity.specs.Nodes as node
use Rattle.simplicity.specs.Nodes.{Node}
use Rattle.simplicity.specs.Shared.{IsShared}
use Rattle.simplicity.specs.Typing.{Typing, HasArrow, IsTyping}
use Rattle.simplicity.proofs.Inversion.{take_meets, take_part, drop_meets, drop_part, pair_meets, pair_parts}
use Rattle.simplicity.proofs.Typings.{meets_at}
use Rattle.small_terms.specs.Kinds.{node_of}
use Rattle.small_terms.specs.declared.entries.SmallNode.{SmallNode}
use Rattle.small_terms.specs.declared.entries.SmallNode.TheVariants as code
use Rattle.small_terms.specs.declared.entries.Entry.{Entry}
use Rattle.small_terms.specs.Emitting.{Adds, found, added, Emits, whole, first, rest, both}
use Rattle.small_terms.specs.Entries.{AreBelow, entry_node, entry_nodes}
use Rattle.small_terms.specs.Plan.{Plan}
use Rattle.small_terms.specs.Tuples.{bytes_kind}
use Rattle.small_terms.proofs.ByteKinds.{bytes_apart}
use Rattle.small_terms.proofs.Grown.{adds_there, adds_grown, emits_below, emits_grown}
use Rattle.small_terms.proofs.Lists.{get_more, get_one_more}
use Rattle.small_terms.proofs.Ordered.{emits_last, settled_by, pair_settled, nodes_on, nodes_get}
use Rattle.small_terms.proofs.Typed.{IsTypedBy, one_arrow}

-- two typings of nodes that begin with these entries agree on the places from one number up to another
abbrev pub Agree : Typing → Typing → ℕ → ℕ → Type 0
Agree ts us low high = (j : ℕ) → low ≤ j → j < high → slice_get ts j ≡ slice_get us j

agree_nothing : (ts us : Typing) (low high : ℕ) → high ≤ low → Agree ts us low high
agree_nothing ts us low high none j least less = absurd (omega arith)

agree_next : (ts us : Typing) (low high at : ℕ) → at ≡ high → Agree ts us low high → slice_get ts at ≡ slice_get us at → Agree ts us low (suc high)
agree_next ts us low high at is before here j least less = split (nat_lt j high) refl
  where
    split : (b : Bool) → nat_lt j high ≡ b → slice_get ts j ≡ slice_get us j
    split true e = before j least (grind (arith, nat_tests))
    split false e =
        let same : at ≡ j = grind (arith, nat_tests) in
        rw same at here

agree_joined : (ts us : Typing) (low middle high : ℕ) → Agree ts us low middle → Agree ts us middle high → Agree ts us low high
agree_joined ts us low middle high before after j least less = split (nat_lt j middle) refl
  where
    split : (b : Bool) → nat_lt j middle ≡ b → slice_get ts j ≡ slice_get us j
    split true e = before j least (grind (arith, nat_tests))
    split false e = after j (grind (arith, nat_tests)) less

-- where a node was added, its children's typings agree up to it, and it has one arrow in both, they agree with it
adds_agree : {old one new : List Entry} {entry : Entry} {at : ℕ} → Adds one entry new at → (slice_get one at ≡ Some entry → one ≡ old) → (ts us : Typing) → slice_get ts at ≡ slice_get us at → Agree ts us (length old) (length one) → Agree ts us (length old) (length new)
adds_agree {old} {one} {new} (found there is) settled ts us here before =
    agree_nothing ts us (length old) (length new) (omega (arith, ap length is, ap length (settled there)))
adds_agree {old} {one} {new} {entry} {at} (added none place is) settled ts us here before =
    let longer : length new ≡ suc (length one) = omega (arith, ap length is, length-append one (entry ∷ [])) in
    rw longer (agree_next ts us (length old) (length one) at place before here)

-- a node of an added entry in the whole list
node_at : (new : List Entry) (full more : List Node) (entry : Entry) (at : ℕ) → full ≡ entry_nodes new ++ more → slice_get new at ≡ Some entry → slice_get full at ≡ Some (entry_node entry)
node_at new full more entry at is there = rw is (get_more (entry_nodes new) more at (entry_node entry) (nodes_get new at entry there))

take_agrees : (ts us : Typing) (full : List Node) (at child : ℕ) (a b : Kind) → IsTyping full ts → IsTyping full us → slice_get full at ≡ Some (node.Take child) → HasArrow ts at a b → HasArrow us at a b → (c : Kind) × HasArrow ts child c b × HasArrow us child c b
take_agrees ts us full at child a b t u stands h g =
    let p : (c : Kind) × (d : Kind) × (a ≡ Product c d) × HasArrow ts child c b = take_meets ts child a b (meets_at ts full at (node.Take child) a b t stands h) in
    (p.0, p.3, take_part us child a p.0 p.1 b (meets_at us full at (node.Take child) a b u stands g) p.2)

drop_agrees : (ts us : Typing) (full : List Node) (at child : ℕ) (a b : Kind) → IsTyping full ts → IsTyping full us → slice_get full at ≡ Some (node.Drop child) → HasArrow ts at a b → HasArrow us at a b → (c : Kind) × HasArrow ts child c b × HasArrow us child c b
drop_agrees ts us full at child a b t u stands h g =
    let p : (c : Kind) × (d : Kind) × (a ≡ Product c d) × HasArrow ts child d b = drop_meets ts child a b (meets_at ts full at (node.Drop child) a b t stands h) in
    (p.1, p.3, drop_part us child a p.0 p.1 b (meets_at us full at (node.Drop child) a b u stands g) p.2)

-- the arrows of a pair's children
record ArePairArrows (ts us : Typing) (left right : ℕ) (a : Kind) : Type 0 where
  one : Kind
  two : Kind
  left_of_first : HasArrow ts left a one
  right_of_first : HasArrow ts right a two
  left_of_second : HasArrow us left a one
  right_of_second : HasArrow us right a two

pair_agrees : (ts us : Typing) (full : List Node) (at left right : ℕ) (a b : Kind) → IsTyping full ts → IsTyping full us → slice_get full at ≡ Some (node.Pair left right) → HasArrow ts at a b → HasArrow us at a b → ArePairArrows ts us left right a
pair_agrees ts us full at left right a b t u stands h g =
    let p : (c : Kind) × (d : Kind) × (b ≡ Product c d) × HasArrow ts left a c × HasArrow ts right a d = pair_meets ts left right a b (meets_at ts full at (node.Pair left right) a b t stands h) in
    let q : HasArrow us left a p.0 × HasArrow us right a p.1 = pair_parts us left right a b p.0 p.1 (meets_at us full at (node.Pair left right) a b u stands g) p.2 in
    record { one = p.0; two = p.1; left_of_first = p.3; right_of_first = p.4; left_of_second = q.0; right_of_second = q.1 }

-- typings with one arrow at the place of an emitted plan agree on all that was added for it
pub emits_agree : {old new : List Entry} {plan : Plan} {at : ℕ} → AreBelow old → Emits old plan new at → (ts us : Typing) (full more : List Node) → IsTyping full ts → IsTyping full us → full ≡ entry_nodes new ++ more → (a b : Kind) → HasArrow ts at a b → HasArrow us at a b → Agree ts us (length old) (length new)
emits_agree {old} below (whole x) ts us full more t u is a b h g =
    adds_agree x (λ _. refl) ts us (h ∙ sym g) (agree_nothing ts us (length old) (length old) (omega arith))
emits_agree {old} {new} below (first {one = one} {count = count} {child = child} {at = at} p x) ts us full more t u is a b h g =
    let stands : slice_get full at ≡ Some (node.Take child) = node_at new full more (record { node = code.Take child; count = count }) at is (adds_there x) in
    let c : (k : Kind) × HasArrow ts child k b × HasArrow us child k b = take_agrees ts us full at child a b t u stands h g in
    adds_agree x (λ there. settled_by (emits_below below p) there (emits_last below p) (λ w. w.0)) ts us (h ∙ sym g)
    (emits_agree below p ts us full _ t u (nodes_on one new full more (adds_grown x) is) c.0 b c.1 c.2)
emits_agree {old} {new} below (rest {one = one} {count = count} {child = child} {at = at} p x) ts us full more t u is a b h g =
    let stands : slice_get full at ≡ Some (node.Drop child) = node_at new full more (record { node = code.Drop child; count = count }) at is (adds_there x) in
    let c : (k : Kind) × HasArrow ts child k b × HasArrow us child k b = drop_agrees ts us full at child a b t u stands h g in
    adds_agree x (λ there. settled_by (emits_below below p) there (emits_last below p) (λ w. w.0)) ts us (h ∙ sym g)
    (emits_agree below p ts us full _ t u (nodes_on one new full more (adds_grown x) is) c.0 b c.1 c.2)
emits_agree {old} {new} below (both {one = one} {two = two} {count = count} {left = left} {right = right} {at = at} p q x) ts us full more t u is a b h g =
    let stands : slice_get full at ≡ Some (node.Pair left right) = node_at new full more (record { node = code.Pair left right; count = count }) at is (adds_there x) in
    let c : ArePairArrows ts us left right a = pair_agrees ts us full at left right a b t u stands h g in
    let two_is : full ≡ entry_nodes two ++ (entry_nodes (adds_grown x).0 ++ more) = nodes_on two new full more (adds_grown x) is in
    adds_agree x (λ there. pair_settled _ _ _ _ (emits_below below p) (emits_below (emits_below below p) q) there (emits_last below p) (emits_last (emits_below below p) q)) ts us (h ∙ sym g)
    (agree_joined ts us (length old) (length one) (length two)
    (emits_agree below p ts us full _ t u (nodes_on one two full _ (emits_grown q) two_is) a c.one c.left_of_first c.left_of_second)
    (emits_agree (emits_below below p) q ts us full _ t u two_is a c.two c.right_of_first c.right_of_second))

-- lists that agree on all places are one
pub same_entries : (ts us : Typing) → length ts ≡ length us → Agree ts us 0 (length ts) → ts ≡ us
same_entries [] [] long agree = refl
same_entries [] (u ∷ us) long agree = absurd (omega arith)
same_entries (t ∷ ts) [] long agree = absurd (omega arith)
same_entries (t ∷ ts) (u ∷ us) long agree =
    let here : Some t ≡ Some u = agree 0 (omega arith) (omega arith) in
    let more : ts ≡ us = same_entries ts us (omega arith) (λ j least less. agree (suc j) (omega arith) (omega arith)) in
    cc

-- no entry twice
pub record AreDistinct (es : List Entry) : Type 0 where
  pub apart : (i j : ℕ) (e : Entry) → slice_get es i ≡ Some e → slice_get es j ≡ Some e → i ≡ j

adds_distinct : {old new : List Entry} {entry : Entry} {at : ℕ} → AreDistinct old → Adds old entry new at → AreDistinct new
adds_distinct distinct (found there is) = rw is distinct
adds_distinct {old} {new} {entry} {at} distinct (added none here is) =
    record { apart = λ i j e p q. places i j e (get_one_more old entry i e (rw is at p)) (get_one_more old entry j e (rw is at q)) }
  where
    places : (i j : ℕ) (e : Entry) → (slice_get old i ≡ Some e) ⊎ ((i ≡ length old) × (e ≡ entry)) → (slice_get old j ≡ Some e) ⊎ ((j ≡ length old) × (e ≡ entry)) → i ≡ j
    places i j e (inl p) (inl q) = distinct.apart i j e p q
    places i j e (inl p) (inr q) = absurd (none i (p ∙ ap Some q.1))
    places i j e (inr p) (inl q) = absurd (none j (q ∙ ap Some p.1))
    places i j e (inr p) (inr q) = p.0 ∙ sym q.0

pub emits_distinct : {old new : List Entry} {plan : Plan} {at : ℕ} → AreDistinct old → Emits old plan new at → AreDistinct new
emits_distinct distinct (whole a) = adds_distinct distinct a
emits_distinct distinct (first p a) = adds_distinct (emits_distinct distinct p) a
emits_distinct distinct (rest p a) = adds_distinct (emits_distinct distinct p) a
emits_distinct distinct (both p q a) = adds_distinct (emits_distinct (emits_distinct distinct p) q) a

pub none_distinct : AreDistinct []
none_distinct = record { apart = λ i j e p q. cc }

same_node : (m n : SmallNode) → node_of m ≡ node_of n → m ≡ n
same_node code.Iden code.Iden e = refl
same_node code.Iden (code.Take j) e = cc
same_node code.Iden (code.Drop j) e = cc
same_node code.Iden (code.Pair j k) e = cc
same_node (code.Take i) code.Iden e = cc
same_node (code.Take i) (code.Take j) e = cc
same_node (code.Take i) (code.Drop j) e = cc
same_node (code.Take i) (code.Pair j k) e = cc
same_node (code.Drop i) code.Iden e = cc
same_node (code.Drop i) (code.Take j) e = cc
same_node (code.Drop i) (code.Drop j) e = cc
same_node (code.Drop i) (code.Pair j k) e = cc
same_node (code.Pair h i) code.Iden e = cc
same_node (code.Pair h i) (code.Take j) e = cc
same_node (code.Pair h i) (code.Drop j) e = cc
same_node (code.Pair h i) (code.Pair j k) e = cc

same_entry : (d e : Entry) → d.node ≡ e.node → d.count ≡ e.count → d ≡ e
same_entry d e p q =
    let by_node : (n : SmallNode) → Entry = λ n. record { node = n; count = d.count } in
    let by_count : (c : ℕ) → Entry = λ c. record { node = e.node; count = c } in
    ap by_node p ∙ ap by_count q

-- the entry at a node's place
entry_there : (es : List Entry) (i : ℕ) (n : Node) → slice_get (entry_nodes es) i ≡ Some n → (e : Entry) × (slice_get es i ≡ Some e) × (entry_node e ≡ n)
entry_there [] i n there = cc
entry_there (e ∷ es) zero n there = (e, refl, cc)
entry_there (e ∷ es) (suc i) n there = entry_there es i n there

-- entries none of which is there twice are shared under a typing by their bytes
pub shared : (es : List Entry) (ts : Typing) → AreDistinct es → IsTypedBy ts es → IsShared (entry_nodes es) ts
shared es ts distinct by i j less same =
    let d : (e : Entry) × (slice_get es i ≡ Some e) × (entry_node e ≡ same.same) = entry_there es i same.same same.first in
    let e : (e : Entry) × (slice_get es j ≡ Some e) × (entry_node e ≡ same.same) = entry_there es j same.same same.second in
    let p : (b : Kind) × HasArrow ts i (bytes_kind (d.0).count) b = by.sources i d.0 d.1 in
    let q : (b : Kind) × HasArrow ts j (bytes_kind (e.0).count) b = by.sources j e.0 e.1 in
    let sources : bytes_kind (d.0).count ≡ bytes_kind (e.0).count = (one_arrow ts j _ _ _ _ (sym same.arrows ∙ p.1) q.1).0 in
    let counts : (d.0).count ≡ (e.0).count = bytes_apart _ _ sources in
    let nodes : (d.0).node ≡ (e.0).node = same_node (d.0).node (e.0).node (d.2 ∙ sym e.2) in
    let equal : d.0 ≡ e.0 = same_entry d.0 e.0 nodes counts in
    let place : i ≡ j = distinct.apart i j e.0 (d.1 ∙ ap Some equal) e.1 in
    omega (arith, place, less)
