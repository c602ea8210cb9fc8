-- A node that may follow keeps a list placed.
use Rattle.std.proofs.Common.{◌≡◌, List, [], ◌∷◌, ◌++◌, refl, ap, append_assoc, append-nil}
use Rattle.simplicity.specs.Nodes.{Node, CanFollow, PlacedAfter, IsPlaced}
use Rattle.term_core.specs.Nodes.{node_of, nodes_of}
use Rattle.term_core.specs.declared.list_node.ListNode.{ListNode}

placed_on : (before ns : List Node) (n : Node) → PlacedAfter before ns → CanFollow (before ++ ns) n → PlacedAfter before (ns ++ n ∷ [])
placed_on before [] n placed follows = (rw append-nil at follows, tt)
placed_on before (m ∷ ns) n placed follows = (placed.0, placed_on (before ++ m ∷ []) ns n placed.1 (rw append_assoc follows))

pub nodes_of-push : (ns : List ListNode) (n : ListNode) → nodes_of (ns ++ n ∷ []) ≡ nodes_of ns ++ node_of n ∷ []
nodes_of-push [] n = refl
nodes_of-push (m ∷ ns) n = ap (λ rest. node_of m ∷ rest) (nodes_of-push ns n)

pub placed_push : (ns : List ListNode) (n : ListNode) (value : List Node) → nodes_of ns ≡ value → IsPlaced (nodes_of ns) → CanFollow value (node_of n) → IsPlaced (nodes_of (ns ++ n ∷ []))
placed_push ns n value is placed follows = rw nodes_of-push (placed_on [] (nodes_of ns) (node_of n) placed (rw is follows))
