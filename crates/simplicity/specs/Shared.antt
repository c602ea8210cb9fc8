-- Sharing and the canonical list (Simplicity Technical Report, "Serialization", maximal sharing; that witness nodes are exempt is this project's own).
use Rattle.std.specs.Prelude.{◌≡◌, ℕ, ◌<◌, List, Some, slice_get}
use Rattle.simplicity.specs.Nodes.{Node, IsPlaced}
use Rattle.simplicity.specs.Nodes as node
use Rattle.simplicity.specs.Order.{IsOrdered}
use Rattle.simplicity.specs.Typing.{Typing, Arrow, IsLeast}

-- the nodes at two indices are equal in kind, in the bits that they carry, in their children and in their arrow, and are no witnesses
pub record AreSame (ns : List Node) (ts : Typing) (i j : ℕ) : Type 0 where
  pub same : Node
  pub first : slice_get ns i ≡ Some same
  pub second : slice_get ns j ≡ Some same
  pub arrows : slice_get ts i ≡ slice_get ts j
  pub plain : same ≡ node.Witness → ⊥

-- no two nodes other than witnesses are equal under the typing
abbrev pub IsShared : List Node → Typing → Type 0
IsShared ns ts = (i j : ℕ) → i < j → AreSame ns ts i j → ⊥

-- children before parents, ordered, and shared under the least typing with the root arrow
pub record IsCanonicalUnder (ns : List Node) (root : Arrow) (ts : Typing) : Type 0 where
  pub placed : IsPlaced ns
  pub ordered : IsOrdered ns
  pub least : IsLeast ns root ts
  pub shared : IsShared ns ts

abbrev pub IsCanonical : List Node → Arrow → Type 0
IsCanonical ns root = (ts : Typing) × IsCanonicalUnder ns root ts
