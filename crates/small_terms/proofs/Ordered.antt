-- Emitting a plan adds its nodes in the order in which a walk from its root ends them.
use Rattle.std.proofs.Common.{◌≡◌, ℕ, zero, suc, ◌<◌, ◌≤◌, List, [], ◌∷◌, ◌++◌, length, slice_get, Some, refl, sym, ap, ◌∙◌, arith, length-append, append_assoc, ◌⊎◌, inl, inr}
use Rattle.std.proofs.lemmas.List.{map-append}
use Rattle.simplicity.specs.Nodes.{AreUnder, Node, children}
use Rattle.simplicity.specs.Order.{over, ended, children_at}
use Rattle.small_terms.specs.declared.entries.SmallNode.TheVariants as code
use Rattle.small_terms.specs.declared.entries.Entry.{Entry}
use Rattle.small_terms.specs.Emitting.{Adds, found, added, Emits, whole, first, rest, both}
use Rattle.small_terms.specs.Entries.{AreBelow, entry_node, entry_nodes}
use Rattle.small_terms.specs.Plan.{Plan}
use Rattle.small_terms.proofs.Lists.{get_more, get_within, upto, upto_next, has_upto, has_upto_past}
use Rattle.small_terms.proofs.Grown.{IsGrown, grown_same, grown_on, grown_length, adds_there, emits_grown, emits_within, emits_below}

-- nothing was added, or the place is the last
abbrev pub IsLast : List Entry → List Entry → ℕ → Type 0
IsLast old new at = (new ≡ old) ⊎ (suc at ≡ length new)

adds_last : {old one new : List Entry} {entry : Entry} {at : ℕ} → Adds one entry new at → (slice_get one at ≡ Some entry → one ≡ old) → IsLast old new at
adds_last (found there is) settled = inl (is ∙ settled there)
adds_last (added {old = one} {new = new} {entry = entry} none here is) settled =
    inr (omega (arith, here, ap length is, length-append one (entry ∷ [])))

-- where a node stands whose child was emitted just before, nothing was added for the child
pub settled_by : {old one : List Entry} {entry : Entry} {at child : ℕ} → AreBelow one → slice_get one at ≡ Some entry → IsLast old one child → (AreUnder at (children (entry_node entry)) → child < at) → one ≡ old
settled_by below there (inl same) uses = same
settled_by {one = one} {entry = entry} {at = at} {child = child} below there (inr last) uses =
    absurd (omega (arith, last, uses (below.below at entry there), get_within one at entry there))

pub pair_settled : {old one two : List Entry} (count left right at : ℕ) → AreBelow one → AreBelow two → slice_get two at ≡ Some (record { node = code.Pair left right; count = count }) → IsLast old one left → IsLast one two right → two ≡ old
pair_settled {one = one} {two = two} count left right at one_below two_below there left_last right_last =
    let same : two ≡ one = settled_by two_below there right_last (λ h. h.1.0) in
    same ∙ settled_by one_below (rw same at there) left_last (λ h. h.0)

pub emits_last : {old new : List Entry} {plan : Plan} {at : ℕ} → AreBelow old → Emits old plan new at → IsLast old new at
emits_last below (whole a) = adds_last a (λ _. refl)
emits_last below (first p a) = adds_last a (λ there. settled_by (emits_below below p) there (emits_last below p) (λ h. h.0))
emits_last below (rest p a) = adds_last a (λ there. settled_by (emits_below below p) there (emits_last below p) (λ h. h.0))
emits_last below (both p q a) = adds_last a (λ there. pair_settled _ _ _ _ (emits_below below p) (emits_below (emits_below below p) q) there (emits_last below p) (emits_last (emits_below below p) q))

-- the nodes of a longer list begin with those of the shorter
pub nodes_on : (one two : List Entry) (full more : List Node) (p : IsGrown one two) → full ≡ entry_nodes two ++ more → full ≡ entry_nodes one ++ (entry_nodes p.0 ++ more)
nodes_on one two full more p is = rw (is, p.1, map-append) (append_assoc (entry_nodes one) (entry_nodes p.0) more)

pub nodes_get : (es : List Entry) (i : ℕ) (e : Entry) → slice_get es i ≡ Some e → slice_get (entry_nodes es) i ≡ Some (entry_node e)
nodes_get [] i e there = cc
nodes_get (z ∷ es) zero e there = let is : z ≡ e = cc in rw is refl
nodes_get (z ∷ es) (suc i) e there = nodes_get es i e there

walk_added : (full : List Node) (depth at olds ones : ℕ) (cs : List ℕ) → children_at full at ≡ cs → olds ≤ at → at ≡ ones → over (ended full depth) cs (upto olds) ≡ upto ones → ended full (suc depth) at (upto olds) ≡ upto (suc ones)
walk_added full depth at olds ones cs childs past is below =
    rw (has_upto_past at olds past, childs, below, is) (sym (upto_next ones))

walk_found : (full : List Node) (depth at olds : ℕ) → at < olds → ended full (suc depth) at (upto olds) ≡ upto olds
walk_found full depth at olds less = rw (has_upto at olds less) refl

-- the walk from the place of an added entry, where that from its children goes from the old numbers to those before it
adds_order : {old one new : List Entry} {entry : Entry} {at : ℕ} → Adds one entry new at → IsGrown old one → (slice_get one at ≡ Some entry → one ≡ old) → (full more : List Node) → full ≡ entry_nodes new ++ more → (depth : ℕ) → at < depth → ((d : ℕ) (m : List Node) → full ≡ entry_nodes one ++ m → length one ≤ d → over (ended full d) (children (entry_node entry)) (upto (length old)) ≡ upto (length one)) → ended full depth at (upto (length old)) ≡ upto (length new)
adds_order a grown settled full more is zero less walks = absurd (omega arith)
adds_order {old} {one} {new} {entry} {at} (found there same) grown settled full more is (suc depth) less walks =
    let shorter : length one ≡ length old = ap length (settled there) in
    let longer : length new ≡ length old = ap length (same ∙ settled there) in
    walk_found full depth at (length old) (omega (arith, get_within one at entry there, shorter)) ∙ sym (ap upto longer)
adds_order {old} {one} {new} {entry} {at} (added none here same) grown settled full more is (suc depth) less walks =
    let stands : slice_get full at ≡ Some (entry_node entry) = rw is (get_more (entry_nodes new) more at (entry_node entry) (nodes_get new at entry (adds_there (added none here same)))) in
    let childs : children_at full at ≡ children (entry_node entry) = rw stands refl in
    let longer : length new ≡ suc (length one) = omega (arith, ap length same, length-append one (entry ∷ [])) in
    walk_added full depth at (length old) (length one) (children (entry_node entry)) childs (omega (arith, here, grown_length old one grown)) here (walks depth (entry_nodes (entry ∷ []) ++ more) (nodes_on one new full more (entry ∷ [], same) is) (omega arith)) ∙ sym (ap upto longer)

-- the walk from the place of an emitted plan ends the nodes that were added for it, in their order
pub emits_order : {old new : List Entry} {plan : Plan} {at : ℕ} → AreBelow old → Emits old plan new at → (full more : List Node) → full ≡ entry_nodes new ++ more → (depth : ℕ) → at < depth → ended full depth at (upto (length old)) ≡ upto (length new)
emits_order {old} below (whole a) full more is depth less =
    adds_order a (grown_same old) (λ _. refl) full more is depth less (λ d m e fits. refl)
emits_order below (first p a) full more is depth less =
    adds_order a (emits_grown p) (λ there. settled_by (emits_below below p) there (emits_last below p) (λ h. h.0)) full more is depth less (λ d m e fits. emits_order below p full m e d (omega (arith, emits_within p)))
emits_order below (rest p a) full more is depth less =
    adds_order a (emits_grown p) (λ there. settled_by (emits_below below p) there (emits_last below p) (λ h. h.0)) full more is depth less (λ d m e fits. emits_order below p full m e d (omega (arith, emits_within p)))
emits_order {old} below (both {one = one} {two = two} {left = left} {right = right} {at = at} p q a) full more is depth less =
    adds_order a (grown_on old one two (emits_grown p) (emits_grown q)) (λ there. pair_settled _ _ _ _ (emits_below below p) (emits_below (emits_below below p) q) there (emits_last below p) (emits_last (emits_below below p) q)) full more is depth less
    (λ d m e fits.
    rw (emits_order below p full (entry_nodes (emits_grown q).0 ++ m) (nodes_on one two full m (emits_grown q) e) d (omega (arith, emits_within p, grown_length one two (emits_grown q))))
    (emits_order (emits_below below p) q full m e d (omega (arith, emits_within q))))
