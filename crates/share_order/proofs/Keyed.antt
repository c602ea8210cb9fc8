-- What inserting a key into a set of keys gives.
use Rattle.std.proofs.Common.{rules, ◌≡◌, refl, ap, sym, subst, ◌∙◌, ℕ, zero, suc, ◌+◌, ◌^◌, ◌<◌, Bool, true, false, ◌||◌, not, cond, List, [], ◌∷◌, ◌++◌, length, map, Option, Some, arith, slice_get}
use Rattle.std.specs.List.{list_any, position_or_len, IsDistinct, AllByRecursion}
use Rattle.std.proofs.lemmas.List.{map-append}
use Rattle.indexmap.specs.IndexSet.{insert_key}
use Rattle.simplicity.specs.Nodes as node
use Rattle.simplicity.specs.Nodes.{Node}
use Rattle.term_core.specs.Nodes.{node_of}
use Rattle.term_core.specs.declared.list_node.ListNode.{ListNode}
use Rattle.term_core.specs.declared.list_node.ListNode.TheVariants as code
use Rattle.share_order.specs.Keys.{Key}
use Rattle.share_order.proofs.Classing.{Grows, Old, New, get_map, from_map}
use Rattle.sharing.proofs.Orderly.{last_case}
use Rattle.share_order.specs.contracts.classes.NodeKeyPartialEq.TheImpl.{eq-value}
use Rattle.infer_cells.specs.declared.typing.NodeArrow.{NodeArrow}
use Rattle.share_order.specs.declared.classes.NodeKey.{NodeKey}
use Rattle.share_order.specs.Keys.{key_of, keys_of, IsWide, KeysDiffer}

-- `==` on keys
abbrev pub same : NodeKey → NodeKey → Bool
same = eq-value.it

abbrev pub IsSelfSame : List NodeKey → Type 0
IsSelfSame keys = (i : ℕ) (k : NodeKey) → slice_get keys i ≡ Some k → same k k ≡ true

pub is_same : (k m : NodeKey) → same k m ≡ true → k ≡ m
is_same k m e = search rules

none_by : (b : Bool) (p : NodeKey → Bool) (x : NodeKey) (xs : List NodeKey) → p x ≡ b → (p x || list_any p xs) ≡ false → (list_any p xs ≡ false → position_or_len p xs ≡ length xs) →
    cond (not (p x)) (1 + position_or_len p xs) 0 ≡ suc (length xs)
none_by true p x xs e g rest = let f : (p x || list_any p xs) ≡ true = rw e refl in absurd (cc)
none_by false p x xs e g rest =
    let f : list_any p xs ≡ false = (let q : (p x || list_any p xs) ≡ list_any p xs = rw e refl in sym q ∙ g) in
    let last = rest f in
    rw e (omega arith)

none_past : (p : NodeKey → Bool) (xs : List NodeKey) → list_any p xs ≡ false → position_or_len p xs ≡ length xs
none_past p [] h = refl
none_past p (x ∷ xs) h = none_by (p x) p x xs refl h (none_past p xs)

grows_by : (b : Bool) (keys more : List NodeKey) (key k : NodeKey) (c : ℕ) → list_any (same key) keys ≡ b → more ≡ cond b keys (keys ++ key ∷ []) → slice_get more c ≡ Some k →
    same key k ≡ true → c ≡ position_or_len (same key) keys → Grows (map key_of keys) (key_of key) c (map key_of more)
grows_by true keys more key k c any is there alike place =
    let at : slice_get keys c ≡ Some key = ap (λ (l : List NodeKey). slice_get l c) (sym is) ∙ there ∙ ap Some (sym (is_same key k alike)) in
    subst (λ (l : List NodeKey). Grows (map key_of keys) (key_of key) c (map key_of l)) (sym is) (Old (get_map key_of keys c key at))
grows_by false keys more key k c any is there alike place =
    let long = map_long keys in
    let past = none_past (same key) keys any in
    subst (λ (l : List NodeKey). Grows (map key_of keys) (key_of key) c (map key_of l)) (sym is)
    (subst (Grows (map key_of keys) (key_of key) c) (sym (map-append key_of keys (key ∷ []))) (New (omega arith)))
  where
    map_long : (ks : List NodeKey) → length (map key_of ks) ≡ length ks
    map_long [] = refl
    map_long (x ∷ ks) = ap suc (map_long ks)

pub inserted : (keys more : List NodeKey) (key : NodeKey) (c : ℕ) → more ≡ insert_key same keys key →
    (k : NodeKey) × (slice_get more c ≡ Some k) × (same key k ≡ true) → c ≡ position_or_len (same key) keys → Grows (map key_of keys) (key_of key) c (map key_of more)
inserted keys more key c is stored place = grows_by (list_any (same key) keys) keys more key stored.0 c refl is stored.1 stored.2 place

all_differ : (k m : NodeKey) (xs : List NodeKey) (i : ℕ) → AllByRecursion (λ y. same k y ≡ false) xs → slice_get xs i ≡ Some m → same k m ≡ false
all_differ k m [] i h e = absurd (cc)
all_differ k m (x ∷ xs) zero h e = let p : x ≡ m = cc in subst (λ (y : NodeKey). same k y ≡ false) p h.0
all_differ k m (x ∷ xs) (suc i) h e = all_differ k m xs i h.1 e

-- keys that were put in are equal to themselves
self_by : (b : Bool) (keys more : List NodeKey) (key : NodeKey) → more ≡ cond b keys (keys ++ key ∷ []) → same key key ≡ true → IsSelfSame keys → IsSelfSame more
self_by true keys more key is self old = subst IsSelfSame (sym is) old
self_by false keys more key is self old =
    subst IsSelfSame (sym is) (λ i k h. last_case keys key k i h (λ g e. old i k g) (λ e g l. subst (λ (x : NodeKey). same x x ≡ true) g self))

pub self_kept : (keys more : List NodeKey) (key : NodeKey) (c : ℕ) → more ≡ insert_key same keys key →
    (k : NodeKey) × (slice_get more c ≡ Some k) × (same key k ≡ true) → IsSelfSame keys → IsSelfSame more
self_kept keys more key c is stored old =
    self_by (list_any (same key) keys) keys more key is (ap (same key) (is_same key stored.0 stored.2) ∙ stored.2) old

code_keys_differ : (keys : List NodeKey) → IsSelfSame keys → IsDistinct same keys → (i j : ℕ) (k : NodeKey) → i < j → slice_get keys i ≡ Some k → slice_get keys j ≡ Some k → ⊥
unfolding IsDistinct
code_keys_differ [] self d i j k l e g = absurd (cc)
code_keys_differ (x ∷ xs) self d i zero k l e g = absurd (omega arith)
code_keys_differ (x ∷ xs) self d zero (suc j) k l e g =
    let p : x ≡ k = cc in
    let no_match = all_differ x k xs j d.0 g in
    let alike : same x k ≡ true = ap (same x) (sym p) ∙ self 0 x refl in
    absurd (cc)
code_keys_differ (x ∷ xs) self d (suc i) (suc j) k l e g = code_keys_differ xs (λ n m h. self (suc n) m h) d.1 i j k (omega arith) e g

-- words have the widths of their levels
abbrev pub AreWide : List NodeKey → Type 0
AreWide keys = (i : ℕ) (k : NodeKey) → slice_get keys i ≡ Some k → IsWide k.node

wide_by : (b : Bool) (keys more : List NodeKey) (key : NodeKey) → more ≡ cond b keys (keys ++ key ∷ []) → IsWide key.node → AreWide keys → AreWide more
wide_by true keys more key is wide old = subst AreWide (sym is) old
wide_by false keys more key is wide old =
    subst AreWide (sym is) (λ i k h. last_case keys key k i h (λ g e. old i k g) (λ e g l. subst (λ (x : NodeKey). IsWide x.node) g wide))

pub wide_kept : (keys more : List NodeKey) (key : NodeKey) → more ≡ insert_key same keys key → IsWide key.node → AreWide keys → AreWide more
wide_kept keys more key is wide old = wide_by (list_any (same key) keys) keys more key is wide old

-- the code's node of a node
abbrev code_of : Node → ListNode
code_of node.Iden = code.Iden
code_of node.UnitNode = code.Unit
code_of (node.Injl i) = code.Injl i
code_of (node.Injr i) = code.Injr i
code_of (node.Take i) = code.Take i
code_of (node.Drop i) = code.Drop i
code_of (node.Comp i j) = code.Comp i j
code_of (node.Case i j) = code.Case i j
code_of (node.Pair i j) = code.Pair i j
code_of (node.Hidden h) = code.Hidden h
code_of (node.Fail e) = code.Fail e
code_of node.Witness = code.Witness
code_of (node.Word k n) = code.Word (record { width = 2 ^ k; number = n })

code_is : (n : ListNode) → IsWide n → code_of (node_of n) ≡ n
code_is code.Iden wide = refl
code_is code.Unit wide = refl
code_is (code.Injl i) wide = refl
code_is (code.Injr i) wide = refl
code_is (code.Take i) wide = refl
code_is (code.Drop i) wide = refl
code_is (code.Comp i j) wide = refl
code_is (code.Case i j) wide = refl
code_is (code.Pair i j) wide = refl
code_is (code.Hidden h) wide = refl
code_is (code.Fail e) wide = refl
code_is code.Witness wide = refl
code_is (code.Word w) wide = ap (λ (x : ℕ). code.Word (record { width = x; number = w.number })) (sym wide)

keys_alike : (k m : NodeKey) → IsWide k.node → IsWide m.node → key_of k ≡ key_of m → k ≡ m
keys_alike k m wide other e =
    let nodes : k.node ≡ m.node = sym (code_is k.node wide) ∙ ap (λ (x : Key (Option NodeArrow)). code_of x.node) e ∙ code_is m.node other in
    let arrows : k.arrow ≡ m.arrow = ap (λ (x : Key (Option NodeArrow)). x.arrow) e in
    let numbers : k.number ≡ m.number = ap (λ (x : Key (Option NodeArrow)). x.number) e in
    ap (λ (x : ListNode). record { node = x; arrow = k.arrow; number = k.number }) nodes
    ∙ ap (λ (x : Option NodeArrow). record { node = m.node; arrow = x; number = k.number }) arrows
    ∙ ap (λ (x : ℕ). record { node = m.node; arrow = m.arrow; number = x }) numbers

pub keys_differ : (keys : List NodeKey) → IsSelfSame keys → AreWide keys → IsDistinct same keys → KeysDiffer (keys_of keys)
keys_differ keys self wide d i j k l e g =
    from_map key_of keys i k e
    (λ x x_is x_same. from_map key_of keys j k g
    (λ y y_is y_same.
    let one = keys_alike y x (wide j y y_is) (wide i x x_is) (y_same ∙ sym x_same) in
    code_keys_differ keys self d i j x l x_is (y_is ∙ ap Some one)))
