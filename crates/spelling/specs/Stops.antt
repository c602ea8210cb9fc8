-- Where the nodes of a program are refused (this project's own).
use Rattle.std.specs.Prelude.{◌≡◌, ℕ, ◌+◌, ◌<◌, ◌⊎◌, List, ◌++◌, Bool, length}
use Rattle.simplicity.specs.Nodes.{Node, PlacedAfter}
use Rattle.simplicity.specs.Carried.{AreCarried}
use Rattle.simplicity.specs.Spelling.{nodes_bits}
use Rattle.spelling.specs.Reading.{Got, Refused, Refusal, read_node, in_place, read_nodes}

-- the next node is refused while it is read, or once it is read, for its place
abbrev pub IsNextRefused : List Node → ℕ → List Bool → Refusal → Type 0
IsNextRefused ns at bits r = (read_node (length ns) at bits ≡ Refused r) ⊎
    ((n : Node) × (end : ℕ) × (rest : List Bool) × (read_node (length ns) at bits ≡ Got n end rest) × (in_place ns n end rest ≡ Refused r))

-- after the nodes before it, fewer nodes than are wanted stand in the bits, fit and are placed, and the next is refused
pub record Stops (count : ℕ) (before : List Node) (at : ℕ) (bits : List Bool) (r : Refusal) : Type 0 where
  pub list : List Node
  pub now : List Node
  pub is : now ≡ before ++ list
  pub place : ℕ
  pub rest : List Bool
  pub placed : PlacedAfter before list
  pub fits : AreCarried list
  pub fewer : length list < count
  pub bits_are : bits ≡ nodes_bits (length before) list ++ rest
  pub place_is : place ≡ at + length (nodes_bits (length before) list)
  pub next : IsNextRefused now place rest r

-- so many nodes are refused only where such a node is
abbrev pub NodesStop : Type 0
NodesStop = (count : ℕ) (before : List Node) (at : ℕ) (bits : List Bool) (r : Refusal) → read_nodes count before at bits ≡ Refused r → Stops count before at bits r
