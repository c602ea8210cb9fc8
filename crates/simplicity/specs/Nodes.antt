-- Node lists: nodes that name their children by index, and the tree that a list unfolds to
-- (after the Simplicity Technical Report, "Serialization"; that witness nodes are numbered in list order is this project's own).
use Rattle.std.specs.Prelude.{◌≡◌, ℕ, suc, ◌+◌, ◌-◌, ◌<◌, List, [], ◌∷◌, ◌++◌, length, Option, Some, None, slice_get, unwrap_or}
use Rattle.simplicity.specs.Terms as term
use Rattle.simplicity.specs.Terms.{Term}

-- a node with its children's indices; a hidden node has 32 bytes, a failure 64, a word its width as 2 ^ k and its number
pub data Node : Type 0 where
  Iden : Node
  UnitNode : Node
  Injl : (child : ℕ) → Node
  Injr : (child : ℕ) → Node
  Take : (child : ℕ) → Node
  Drop : (child : ℕ) → Node
  Comp : (left right : ℕ) → Node
  Case : (left right : ℕ) → Node
  Pair : (left right : ℕ) → Node
  Hidden : (bytes : List ℕ) → Node
  Fail : (bytes : List ℕ) → Node
  Witness : Node
  Word : (k number : ℕ) → Node

-- the children, left first
abbrev pub children : Node → List ℕ
children (Injl i) = i ∷ []
children (Injr i) = i ∷ []
children (Take i) = i ∷ []
children (Drop i) = i ∷ []
children (Comp i j) = i ∷ j ∷ []
children (Case i j) = i ∷ j ∷ []
children (Pair i j) = i ∷ j ∷ []
children _ = []

-- the numbers are below one
abbrev pub AreUnder : ℕ → List ℕ → Type 0
AreUnder n [] = Unit {0}
AreUnder n (i ∷ is) = (i < n) × AreUnder n is

-- the node at an index is there and isn't hidden
abbrev pub IsShown : Option Node → Type 0
IsShown None = ⊥
IsShown (Some (Hidden h)) = ⊥
IsShown (Some _) = Unit {0}

-- the node at an index is there and hidden
abbrev pub IsHidden : Option Node → Type 0
IsHidden (Some (Hidden h)) = Unit {0}
IsHidden _ = ⊥

-- the children of a case: both there, at least one of them shown
abbrev pub AreCaseSides : Option Node → Option Node → Type 0
AreCaseSides None _ = ⊥
AreCaseSides (Some s) None = ⊥
AreCaseSides (Some (Hidden h)) (Some t) = IsShown (Some t)
AreCaseSides (Some s) (Some t) = Unit {0}

-- a node may follow these: its children are among them, and a hidden one is the child of a case alone, never both
abbrev pub CanFollow : List Node → Node → Type 0
CanFollow ns (Injl i) = IsShown (slice_get ns i)
CanFollow ns (Injr i) = IsShown (slice_get ns i)
CanFollow ns (Take i) = IsShown (slice_get ns i)
CanFollow ns (Drop i) = IsShown (slice_get ns i)
CanFollow ns (Comp i j) = IsShown (slice_get ns i) × IsShown (slice_get ns j)
CanFollow ns (Pair i j) = IsShown (slice_get ns i) × IsShown (slice_get ns j)
CanFollow ns (Case i j) = AreCaseSides (slice_get ns i) (slice_get ns j)
CanFollow ns _ = Unit {0}

-- each node of the second list may follow those before it
abbrev pub PlacedAfter : List Node → List Node → Type 0
PlacedAfter before [] = Unit {0}
PlacedAfter before (n ∷ ns) = CanFollow before n × PlacedAfter (before ++ n ∷ []) ns

-- children stand before their parents, hidden nodes in their places
abbrev pub IsPlaced : List Node → Type 0
IsPlaced ns = PlacedAfter [] ns

-- the list ends with a node that isn't hidden: its root
abbrev pub HasRoot : List Node → Type 0
HasRoot ns = IsShown (slice_get ns (length ns - 1)) × (0 < length ns)

-- what a node stands for: a tree, or the bytes of a hidden side
pub data Part : Type 0 where
  Tree : (t : Term) → Part
  HiddenSide : (bytes : List ℕ) → Part

-- the part at an index; the last case is none of a placed list
abbrev pub part_at : List Part → ℕ → Part
part_at ps i = unwrap_or (slice_get ps i) (HiddenSide [])

-- the tree of a part; the last case is none of a placed list
abbrev pub tree_of_part : Part → Term
tree_of_part (Tree t) = t
tree_of_part (HiddenSide h) = term.Fail h

abbrev pub tree_at : List Part → ℕ → Term
tree_at ps i = tree_of_part (part_at ps i)

-- a case, or the assertion whose other side is hidden
abbrev pub case_of : Part → Part → Term
case_of (Tree s) (Tree t) = term.Case s t
case_of (Tree s) (HiddenSide h) = term.AssertL s h
case_of (HiddenSide h) p = term.AssertR h (tree_of_part p)

-- what a node stands for, after these parts and so many witness nodes
abbrev pub part_of : List Part → ℕ → Node → Part
part_of ps w Iden = Tree term.Iden
part_of ps w UnitNode = Tree term.UnitTerm
part_of ps w (Injl i) = Tree (term.Injl (tree_at ps i))
part_of ps w (Injr i) = Tree (term.Injr (tree_at ps i))
part_of ps w (Take i) = Tree (term.Take (tree_at ps i))
part_of ps w (Drop i) = Tree (term.Drop (tree_at ps i))
part_of ps w (Comp i j) = Tree (term.Comp (tree_at ps i) (tree_at ps j))
part_of ps w (Case i j) = Tree (case_of (part_at ps i) (part_at ps j))
part_of ps w (Pair i j) = Tree (term.PairTerm (tree_at ps i) (tree_at ps j))
part_of ps w (Hidden h) = HiddenSide h
part_of ps w (Fail e) = Tree (term.Fail e)
part_of ps w Witness = Tree (term.Witness w)
part_of ps w (Word k n) = Tree (term.Word k n)

-- the number of witness nodes once this one is counted
abbrev pub count_after : Node → ℕ → ℕ
count_after Witness w = w + 1
count_after _ w = w

-- the parts of the nodes, after these parts and so many witness nodes
abbrev pub parts_from : List Part → ℕ → List Node → List Part
parts_from ps w [] = ps
parts_from ps w (n ∷ ns) = parts_from (ps ++ part_of ps w n ∷ []) (count_after n w) ns

-- the parts of a list
abbrev pub parts : List Node → List Part
parts ns = parts_from [] 0 ns

-- the tree that a node of a list unfolds to, and that of its root
abbrev pub tree_of_node : List Node → ℕ → Term
tree_of_node ns i = tree_at (parts ns) i

abbrev pub tree_of : List Node → Term
tree_of ns = tree_of_node ns (length ns - 1)

-- the number of witness nodes among the first nodes of a list, so the number of the one that stands there
abbrev pub witness_number : List Node → ℕ → ℕ
witness_number (n ∷ ns) (suc i) = count_after n (witness_number ns i)
witness_number _ _ = 0

-- what the nodes of a list unfold to, by cases: each shown node with its tree
pub data Unfolds (ns : List Node) : ℕ → Term → Type 0 where
  UnfoldIden : (i : ℕ) → slice_get ns i ≡ Some Iden → Unfolds ns i term.Iden
  UnfoldUnit : (i : ℕ) → slice_get ns i ≡ Some UnitNode → Unfolds ns i term.UnitTerm
  UnfoldInjl : (i j : ℕ) (t : Term) → slice_get ns i ≡ Some (Injl j) → Unfolds ns j t → Unfolds ns i (term.Injl t)
  UnfoldInjr : (i j : ℕ) (t : Term) → slice_get ns i ≡ Some (Injr j) → Unfolds ns j t → Unfolds ns i (term.Injr t)
  UnfoldTake : (i j : ℕ) (t : Term) → slice_get ns i ≡ Some (Take j) → Unfolds ns j t → Unfolds ns i (term.Take t)
  UnfoldDrop : (i j : ℕ) (t : Term) → slice_get ns i ≡ Some (Drop j) → Unfolds ns j t → Unfolds ns i (term.Drop t)
  UnfoldComp : (i j k : ℕ) (s t : Term) → slice_get ns i ≡ Some (Comp j k) → Unfolds ns j s → Unfolds ns k t → Unfolds ns i (term.Comp s t)
  UnfoldCase : (i j k : ℕ) (s t : Term) → slice_get ns i ≡ Some (Case j k) → Unfolds ns j s → Unfolds ns k t → Unfolds ns i (term.Case s t)
  UnfoldAssertL : (i j k : ℕ) (s : Term) (h : List ℕ) → slice_get ns i ≡ Some (Case j k) → Unfolds ns j s → slice_get ns k ≡ Some (Hidden h) →
      Unfolds ns i (term.AssertL s h)
  UnfoldAssertR : (i j k : ℕ) (h : List ℕ) (t : Term) → slice_get ns i ≡ Some (Case j k) → slice_get ns j ≡ Some (Hidden h) → Unfolds ns k t →
      Unfolds ns i (term.AssertR h t)
  UnfoldPair : (i j k : ℕ) (s t : Term) → slice_get ns i ≡ Some (Pair j k) → Unfolds ns j s → Unfolds ns k t → Unfolds ns i (term.PairTerm s t)
  UnfoldFail : (i : ℕ) (e : List ℕ) → slice_get ns i ≡ Some (Fail e) → Unfolds ns i (term.Fail e)
  UnfoldWitness : (i : ℕ) → slice_get ns i ≡ Some Witness → Unfolds ns i (term.Witness (witness_number ns i))
  UnfoldWord : (i k n : ℕ) → slice_get ns i ≡ Some (Word k n) → Unfolds ns i (term.Word k n)
