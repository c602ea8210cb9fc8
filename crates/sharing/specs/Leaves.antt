-- The witness nodes at the leaves of a node's tree (this project's own).
use Rattle.std.specs.Prelude.{◌≡◌, ℕ, zero, suc, ◌-◌, ◌<◌, false, List, [], ◌∷◌, ◌++◌, length, Option, Some, slice_get}
use Rattle.simplicity.specs.Nodes as node
use Rattle.simplicity.specs.Nodes.{Node, IsPlaced, witness_number}
use Rattle.simplicity.specs.Order.{has, children_at}
use Rattle.simplicity.specs.Typing.{Typing}
use Rattle.simplicity.specs.Pruning.{gathered}
use Rattle.simplicity.specs.Canon.{Declared, Stands, leaves}

abbrev pub own_leaf : Option Node → ℕ → List ℕ
own_leaf (Some node.Witness) i = i ∷ []
own_leaf _ i = []

-- the lists of each of these, one after the other
abbrev pub each_in : (ℕ → List ℕ) → List ℕ → List ℕ
each_in f [] = []
each_in f (i ∷ is) = f i ++ each_in f is

-- the indices of the witness nodes at the leaves of a node's tree, left first, with each as often as it stands there;
-- in a placed list no path is longer than the list
abbrev pub leaf_nodes : List Node → ℕ → ℕ → List ℕ
leaf_nodes ns zero i = []
leaf_nodes ns (suc depth) i = own_leaf (slice_get ns i) i ++ each_in (leaf_nodes ns depth) (children_at ns i)

-- no number stands twice
abbrev pub NoneTwice : List ℕ → Type 0
NoneTwice [] = Unit {0}
NoneTwice (i ∷ is) = (has i is ≡ false) × NoneTwice is

-- where each witness node has one place in the root's tree, the list of what is reached has as many witness nodes as the term has witness leaves
abbrev pub WitnessesStandAlone : Type 0
WitnessesStandAlone = (ns : List Node) (ds : Typing) (names : List ℕ) (t : Declared) → IsPlaced ns → 0 < length ns → Stands ns ds names (length ns - 1) t →
    NoneTwice (leaf_nodes ns (length ns) (length ns - 1)) → witness_number (gathered ns) (length (gathered ns)) ≡ leaves t
