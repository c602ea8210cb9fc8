-- Hiding, cuts, reordering and the pruned list (after the Simplicity Technical Report, "Pruning Unused case Branches"; the forms on lists are this project's own).
use Rattle.std.specs.Prelude.{◌≡◌, ℕ, ◌+◌, ◌-◌, ◌<◌, ◌↔◌, nat_eq, List, [], ◌∷◌, ◌++◌, length, map, Option, Some, None, slice_get}
use Rattle.std.specs.List.{position_or_len}
use Rattle.simplicity.specs.Types.{Value, UnitValue, One, shrink_all}
use Rattle.simplicity.specs.Nodes.{Node, IsShown, witness_number, Part, Tree, HiddenSide, parts, part_at}
use Rattle.simplicity.specs.Nodes as node
use Rattle.simplicity.specs.Order.{post_order}
use Rattle.simplicity.specs.Places.{ArePlaces}
use Rattle.simplicity.specs.Typing.{Typing, Arrow, arrow, IsLeast, witness_targets}
use Rattle.simplicity.specs.Shared.{IsCanonicalUnder}
use Rattle.simplicity.specs.Roots.{part_root}
use Rattle.simplicity.specs.Visits.{IsVisitedLeft, IsVisitedRight}

-- a node with its children's indices changed
abbrev pub renamed : (ℕ → ℕ) → Node → Node
renamed f (node.Injl t) = node.Injl (f t)
renamed f (node.Injr t) = node.Injr (f t)
renamed f (node.Take t) = node.Take (f t)
renamed f (node.Drop t) = node.Drop (f t)
renamed f (node.Comp s t) = node.Comp (f s) (f t)
renamed f (node.Case s t) = node.Case (f s) (f t)
renamed f (node.Pair s t) = node.Pair (f s) (f t)
renamed f n = n

-- what becomes of a case: it stays, or one side is hidden
pub data Choice : Type 0 where
  Keep : Choice
  HideLeft : Choice
  HideRight : Choice

-- a case with its sides' parts under a choice, where the root of node i stands hidden at i and node i itself `later` places on;
-- an assertion stays as it is
abbrev pub cut_case : ℕ → Choice → ℕ → ℕ → Part → Part → Node
cut_case later HideLeft s t (Tree p) (Tree q) = node.Case s (later + t)
cut_case later HideRight s t (Tree p) (Tree q) = node.Case (later + s) t
cut_case later _ s t _ _ = node.Case (later + s) (later + t)

abbrev pub cut_node : List Part → ℕ → Choice → Node → Node
cut_node ps later c (node.Case s t) = cut_case later c s t (part_at ps s) (part_at ps t)
cut_node ps later c n = renamed (λ i. later + i) n

-- the nodes from an index on, under a choice for each index
abbrev pub cut_from : List Part → ℕ → (ℕ → Choice) → ℕ → List Node → List Node
cut_from ps later choices i [] = []
cut_from ps later choices i (n ∷ ns) = cut_node ps later (choices i) n ∷ cut_from ps later choices (i + 1) ns

-- the cut of a list: the roots of all its nodes as hidden nodes, and then its nodes, in which each case that a choice hides a side of
-- names that side's root; what the root doesn't reach is left to reordering
abbrev pub cut : (ℕ → Choice) → List Node → List Node
cut choices ns = map (λ p. node.Hidden (part_root p)) (parts ns) ++ cut_from (parts ns) (length ns) choices 0 ns

-- a case stands at the index, and both its sides are shown
pub record IsOpenAt (ns : List Node) (i : ℕ) : Type 0 where
  pub left : ℕ
  pub right : ℕ
  pub here : slice_get ns i ≡ Some (node.Case left right)
  pub left_shown : IsShown (slice_get ns left)
  pub right_shown : IsShown (slice_get ns right)

-- the choices hide sides of such cases alone
abbrev pub HidesOpen : List Node → (ℕ → Choice) → Type 0
HidesOpen ns choices = (i : ℕ) → (choices i ≡ Keep → ⊥) → IsOpenAt ns i

-- a cut of the list, by any such choices
pub record IsCut (ns after : List Node) : Type 0 where
  pub choices : ℕ → Choice
  pub hides : HidesOpen ns choices
  pub is_cut : after ≡ cut choices ns

-- the choices hide exactly those sides of such cases that a run on the value doesn't visit, where it visits the other side
pub record HidesUnvisited (ns : List Node) (w : List Value) (v : Value) (choices : ℕ → Choice) : Type 0 where
  pub left : (i : ℕ) → choices i ≡ HideLeft ↔ (IsOpenAt ns i × IsVisitedRight ns w v i × (IsVisitedLeft ns w v i → ⊥))
  pub right : (i : ℕ) → choices i ≡ HideRight ↔ (IsOpenAt ns i × IsVisitedLeft ns w v i × (IsVisitedRight ns w v i → ⊥))

-- the list with each case that is visited on one side alone turned into an assertion
pub record IsHide (ns : List Node) (w : List Value) (v : Value) (hidden : List Node) : Type 0 where
  pub choices : ℕ → Choice
  pub unvisited : HidesUnvisited ns w v choices
  pub is_cut : hidden ≡ cut choices ns

-- the nodes at these indices, renamed
abbrev pub picked_next : (ℕ → ℕ) → Option Node → List Node → List Node
picked_next f None rest = rest
picked_next f (Some n) rest = renamed f n ∷ rest

abbrev pub picked : (ℕ → ℕ) → List Node → List ℕ → List Node
picked f ns [] = []
picked f ns (i ∷ is) = picked_next f (slice_get ns i) (picked f ns is)

-- the nodes that the root reaches, in left-first post-order
abbrev pub gathered : List Node → List Node
gathered ns = picked (λ i. position_or_len (nat_eq i) (post_order ns)) ns (post_order ns)

-- the old numbers of the witness nodes among those at these indices, in their order
abbrev pub numbers_next : Option Node → ℕ → List ℕ → List ℕ
numbers_next (Some node.Witness) number rest = number ∷ rest
numbers_next _ number rest = rest

abbrev pub numbers_at : List Node → List ℕ → List ℕ
numbers_at ns [] = []
numbers_at ns (i ∷ is) = numbers_next (slice_get ns i) (witness_number ns i) (numbers_at ns is)

abbrev pub gathered_numbers : List Node → List ℕ
gathered_numbers ns = numbers_at ns (post_order ns)

-- the values at these numbers, without those that aren't there
abbrev pub values_next : Option Value → List Value → List Value
values_next None rest = rest
values_next (Some v) rest = v ∷ rest

abbrev pub values_at : List Value → List ℕ → List Value
values_at w [] = []
values_at w (k ∷ ks) = values_next (slice_get w k) (values_at w ks)

-- a list merged into another under their typings: each node goes to one of its kind, children and arrow, and no two witness nodes to one
pub record IsMerged (ns : List Node) (ts : Typing) (ms : List Node) (us : Typing) (place : ℕ → ℕ) : Type 0 where
  pub root : place (length ns - 1) ≡ length ms - 1
  pub nodes : (i : ℕ) (n : Node) → slice_get ns i ≡ Some n → slice_get ms (place i) ≡ Some (renamed place n)
  pub arrows : (i : ℕ) → i < length ns → slice_get us (place i) ≡ slice_get ts i
  pub apart : (i j : ℕ) → slice_get ns i ≡ Some node.Witness → slice_get ns j ≡ Some node.Witness → place i ≡ place j → i ≡ j

-- the list reordered at an arrow: what the root reaches, under its least typing, with equal nodes merged, in its order;
-- and for each node that is left the least old place that became it
pub record IsReordered (ns : List Node) (root : Arrow) (ms : List Node) (us : Typing) (places : List ℕ) : Type 0 where
  pub typing : Typing
  pub place : ℕ → ℕ
  pub least : IsLeast (gathered ns) root typing
  pub merged : IsMerged (gathered ns) typing ms us place
  pub canonical : IsCanonicalUnder ms root us
  pub from : ArePlaces ns ms place places

-- the list and the witness values pruned by a run on the empty tuple: hidden, reordered, and each value that is left shrunk to its node's new target
pub record IsPruned (ns : List Node) (w : List Value) (ms : List Node) (us : Typing) (left : List Value) : Type 0 where
  pub hidden : List Node
  pub places : List ℕ
  pub hide : IsHide ns w UnitValue hidden
  pub reordered : IsReordered hidden (arrow One One) ms us places
  pub values : left ≡ shrink_all (values_at w (gathered_numbers hidden)) (witness_targets ms us)
