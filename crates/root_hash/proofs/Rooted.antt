-- The roots of a placed list, one node after the other.
use Rattle.std.proofs.Common.{◌≡◌, ℕ, zero, suc, ◌+◌, ◌<◌, ◌≤◌, List, [], ◌∷◌, ◌++◌, length, take, map, get_or, Some, slice_get, refl, ap, sym, ◌∙◌, arith, add-one, length-append}
use Rattle.std.proofs.lemmas.List.{length-map}
use Rattle.simplicity.specs.Nodes as node
use Rattle.simplicity.specs.Nodes.{AreUnder, Node, Part, Tree, HiddenSide, IsShown, IsPlaced, CanFollow, children, part_at, part_of, case_of, tree_at, parts, parts_from, count_after, tree_of_node, witness_number}
use Rattle.simplicity.specs.Roots.{part_root, root, roots, case_root, pair_root, injl_root, injr_root, tagged, absent}
use Rattle.simplicity.proofs.Unfold.{parts_at, shown_at, hidden_side_at, follows_at, sides_at, shown_before, ShownBefore, CaseSides, BothShown, RightHidden, LeftHidden, children_under}
use Rattle.term_core.specs.Nodes.{node_of, nodes_of}
use Rattle.term_core.specs.declared.list_node.ListNode.{ListNode}
use Rattle.root_hash.specs.NodeRoot.{root_at, node_root}

part_root_at : (ps : List Part) (j : ℕ) → root_at (map part_root ps) j ≡ part_root (part_at ps j)
part_root_at [] j = refl
part_root_at (p ∷ ps) zero = refl
part_root_at (p ∷ ps) (suc j) = part_root_at ps j

front_root : (rs : List (List ℕ)) (i j : ℕ) → j < i → root_at (take i rs) j ≡ root_at rs j
front_root rs zero j h = absurd (omega arith)
front_root [] (suc i) j h = refl
front_root (r ∷ rs) (suc i) zero h = refl
front_root (r ∷ rs) (suc i) (suc j) h = front_root rs i j (omega arith)

-- the roots up to a node, at one that stands before it
before_root : (ns : List Node) (i j : ℕ) → j < i → root_at (take i (roots ns)) j ≡ part_root (part_at (parts ns) j)
before_root ns i j h = front_root (roots ns) i j h ∙ part_root_at (parts ns) j

module _ (ns : List Node) (i : ℕ) (placed : IsPlaced ns) where
  shown_root : (j : ℕ) → ShownBefore ns i j → root_at (take i (roots ns)) j ≡ root (tree_at (parts ns) j)
  shown_root j s = before_root ns i j s.earlier ∙ ap part_root (shown_at ns j s.child placed s.there s.shown)

  child_root : (j : ℕ) → IsShown (slice_get (take i ns) j) → root_at (take i (roots ns)) j ≡ root (tree_at (parts ns) j)
  child_root j h = shown_root j (shown_before ns i j h)

  hidden_root : (j : ℕ) (h : List ℕ) → slice_get ns j ≡ Some (node.Hidden h) → j < i → root_at (take i (roots ns)) j ≡ h
  hidden_root j h there earlier = before_root ns i j earlier ∙ ap part_root (hidden_side_at ns j h placed there)

  case_rooted : (j k : ℕ) → CaseSides ns i j k → case_root (root_at (take i (roots ns)) j) (root_at (take i (roots ns)) k) ≡ root (case_of (part_at (parts ns) j) (part_at (parts ns) k))
  case_rooted j k (BothShown s t) =
      let p = shown_at ns j s.child placed s.there s.shown in
      let q = shown_at ns k t.child placed t.there t.shown in
      ap (λ r. case_root r (root_at (take i (roots ns)) k)) (shown_root j s) ∙ ap (case_root (root (tree_at (parts ns) j))) (shown_root k t)
      ∙ sym (ap (λ x. root (case_of x (part_at (parts ns) k))) p ∙ ap (λ x. root (case_of (Tree (tree_of_node ns j)) x)) q)
  case_rooted j k (RightHidden h s there earlier) =
      let p = shown_at ns j s.child placed s.there s.shown in
      let q = hidden_side_at ns k h placed there in
      ap (λ r. case_root r (root_at (take i (roots ns)) k)) (shown_root j s) ∙ ap (case_root (root (tree_at (parts ns) j))) (hidden_root k h there earlier)
      ∙ sym (ap (λ x. root (case_of x (part_at (parts ns) k))) p ∙ ap (λ x. root (case_of (Tree (tree_of_node ns j)) x)) q)
  case_rooted j k (LeftHidden h there earlier t) =
      let p = hidden_side_at ns j h placed there in
      let q = shown_at ns k t.child placed t.there t.shown in
      ap (λ r. case_root r (root_at (take i (roots ns)) k)) (hidden_root j h there earlier) ∙ ap (case_root h) (shown_root k t)
      ∙ sym (ap (λ x. root (case_of x (part_at (parts ns) k))) p ∙ ap (λ x. root (case_of (HiddenSide h) x)) q)

  two_roots : (f : List ℕ → List ℕ → List ℕ) (j k : ℕ) → IsShown (slice_get (take i ns) j) × IsShown (slice_get (take i ns) k) →
      f (root_at (take i (roots ns)) j) (root_at (take i (roots ns)) k) ≡ f (root (tree_at (parts ns) j)) (root (tree_at (parts ns) k))
  two_roots f j k h = ap (λ r. f r (root_at (take i (roots ns)) k)) (child_root j h.0) ∙ ap (f (root (tree_at (parts ns) j))) (child_root k h.1)

  -- a node's root is that of the part that it stands for
  node_rooted : (n : Node) (w : ℕ) → CanFollow (take i ns) n → node_root (take i (roots ns)) n ≡ part_root (part_of (parts ns) w n)
  node_rooted node.Iden w h = refl
  node_rooted node.UnitNode w h = refl
  node_rooted (node.Injl j) w h = ap injl_root (child_root j h)
  node_rooted (node.Injr j) w h = ap injr_root (child_root j h)
  node_rooted (node.Take j) w h = ap (λ r. tagged (Rattle.std.specs.Prelude.codes "simphl/take") r absent) (child_root j h)
  node_rooted (node.Drop j) w h = ap (λ r. tagged (Rattle.std.specs.Prelude.codes "simphl/drop") r absent) (child_root j h)
  node_rooted (node.Comp j k) w h = two_roots (tagged (Rattle.std.specs.Prelude.codes "simphl/comp")) j k h
  node_rooted (node.Case j k) w h = case_rooted j k (sides_at ns i j k h)
  node_rooted (node.Pair j k) w h = two_roots pair_root j k h
  node_rooted (node.Hidden b) w h = refl
  node_rooted (node.Fail e) w h = refl
  node_rooted node.Witness w h = refl
  node_rooted (node.Word k n) w h = refl

take-next : {A : Type 0} (f : A → List ℕ) (xs : List A) (i : ℕ) (x : A) → slice_get xs i ≡ Some x → take (suc i) (map f xs) ≡ take i (map f xs) ++ f x ∷ []
take-next f [] i x h = absurd (cc)
take-next f (y ∷ xs) zero x h = let e : y ≡ x = cc in ap (λ z. f z ∷ []) e
take-next f (y ∷ xs) (suc i) x h = ap (λ rest. f y ∷ rest) (take-next f xs i x h)

node_there : (raw : List ListNode) (i : ℕ) (n : ListNode) → n ≡ get_or raw i n → i < length raw → slice_get (nodes_of raw) i ≡ Some (node_of n)
node_there [] i n is h = absurd (omega arith)
node_there (m ∷ raw) zero n is h = ap (λ x. Some (node_of x)) (sym is)
node_there (m ∷ raw) (suc i) n is h = node_there raw i n is (omega arith)

-- the roots of the first nodes of a list
pub record Front (ns : List Node) (i : ℕ) (rs : List (List ℕ)) : Type 0 where
  pub is : rs ≡ take i (roots ns)
  pub count : length rs ≡ i

pub front_none : (ns : List Node) → Front ns 0 []
front_none ns = record { is = refl; count = refl }

module _ (raw : List ListNode) (ns : List Node) (i : ℕ) (n : ListNode) (there : n ≡ get_or raw i n) (is : nodes_of raw ≡ ns) (placed : IsPlaced ns) (within : i < length raw) where
  at_node : slice_get ns i ≡ Some (node_of n)
  at_node = rw (← is) (node_there raw i n there within)

  pub children_before : (rs : List (List ℕ)) → Front ns i rs → AreUnder (length rs) (children (node_of n))
  children_before rs front = let e = front.count in rw e (children_under ns i (node_of n) (follows_at ns i (node_of n) placed at_node))

  pub front_next : (rs new : List (List ℕ)) (r : List ℕ) → Front ns i rs → r ≡ node_root rs (node_of n) → new ≡ rs ++ r ∷ [] → Front ns (i + 1) new
  front_next rs new r front made pushed = record {
    is =
        let e = front.is in
        let same : r ≡ part_root (part_of (parts ns) (witness_number ns i) (node_of n)) =
        made ∙ ap (λ x. node_root x (node_of n)) e ∙ node_rooted ns i placed (node_of n) (witness_number ns i) (follows_at ns i (node_of n) placed at_node) in
        let more = take-next part_root (parts ns) i (part_of (parts ns) (witness_number ns i) (node_of n)) (parts_at ns i (node_of n) placed at_node) in
        rw add-one (pushed ∙ ap (λ x. x ++ r ∷ []) e ∙ ap (λ x. take i (roots ns) ++ x ∷ []) same ∙ sym more);
    count = let c = front.count in omega (arith, ap length pushed, length-append rs (r ∷ []));
  }

length-nodes : (raw : List ListNode) → length (nodes_of raw) ≡ length raw
length-nodes [] = refl
length-nodes (m ∷ raw) = ap suc (length-nodes raw)

length-parts : (ps : List Part) (w : ℕ) (ns : List Node) → length (parts_from ps w ns) ≡ length ps + length ns
length-parts ps w [] = omega arith
length-parts ps w (n ∷ ns) = omega (arith, length-parts (ps ++ part_of ps w n ∷ []) (count_after n w) ns, length-append ps (part_of ps w n ∷ []))

take_whole : (rs : List (List ℕ)) (i : ℕ) → length rs ≤ i → take i rs ≡ rs
take_whole [] zero h = refl
take_whole [] (suc i) h = refl
take_whole (r ∷ rs) zero h = absurd (omega arith)
take_whole (r ∷ rs) (suc i) h = ap (λ rest. r ∷ rest) (take_whole rs i (omega arith))

pub front_all : (raw : List ListNode) (ns : List Node) (i : ℕ) (rs : List (List ℕ)) → nodes_of raw ≡ ns → length raw ≤ i → Front ns i rs → rs ≡ roots ns
front_all raw ns i rs is past front =
    let few : length (roots ns) ≤ i = omega (arith, length-map (parts ns) part_root, length-parts [] 0 ns, ap length is, length-nodes raw) in
    front.is ∙ take_whole (roots ns) i few
