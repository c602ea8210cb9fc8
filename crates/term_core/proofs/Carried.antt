-- What the nodes of a list carry fits its field.
use Rattle.std.proofs.Common.{Fits, w8, ℕ, suc, List, [], ◌∷◌, ◌++◌, get_or, arith}
use Rattle.simplicity.specs.Carried.{AreBelow256, AreCarried, IsCarried}
use Rattle.simplicity.specs.Nodes.{Node}
use Rattle.term_core.specs.Nodes.{node_of, nodes_of}
use Rattle.term_core.specs.declared.list_node.ListNode.{ListNode}
use Rattle.term_core.proofs.Placed.{nodes_of-push}

-- a list of which each item is a byte
pub bytes_below : (bs : List ℕ) → ((i : ℕ) → Fits w8 (get_or bs i 0)) → AreBelow256 bs
bytes_below [] fits = tt
bytes_below (b ∷ bs) fits = (omega (arith, fits 0), bytes_below bs (λ i. fits (suc i)))

carried_on : (ns : List Node) (n : Node) → AreCarried ns → IsCarried n → AreCarried (ns ++ n ∷ [])
carried_on [] n all last = (last, tt)
carried_on (m ∷ ns) n all last = (all.0, carried_on ns n all.1 last)

pub carried_push : (raw : List ListNode) (n : ListNode) → AreCarried (nodes_of raw) → IsCarried (node_of n) → AreCarried (nodes_of (raw ++ n ∷ []))
carried_push raw n all last = rw nodes_of-push (carried_on (nodes_of raw) (node_of n) all last)
