-- What a refusal of a list says of it.
use Rattle.std.specs.Prelude.{ℕ, ◌<◌, ◌≤◌, List, length}
use Rattle.simplicity.specs.Nodes.{Node}
use Rattle.simplicity.specs.Order.{IsInPlace}
use Rattle.simplicity.specs.Limits.{most_weight, most_nodes}
use Rattle.simplicity.specs.Typing.{Typing, Arrow, IsLight, IsTypingAt}
use Rattle.simplicity.specs.Shared.{AreSame}
use Rattle.simplicity.specs.Pruning.{IsReordered, gathered}
use Rattle.infer_cells.specs.Typings.{LeastIsHeavy}
use Rattle.share_order.specs.declared.refusal.OrderRefusal.{OrderRefusal}
use Rattle.share_order.specs.declared.refusal.OrderRefusal.TheVariants as order
use Rattle.share_order.specs.declared.refusal.CanonRefusal.{CanonRefusal}
use Rattle.share_order.specs.declared.refusal.CanonRefusal.TheVariants as canon

-- the first node that isn't in its place
pub record IsFirstOut (ns : List Node) (i : ℕ) : Type 0 where
  pub within : i < length ns
  pub out : IsInPlace ns i → ⊥
  pub before : (j : ℕ) → j < i → IsInPlace ns j

-- a refusal of an order
abbrev pub RefusesOrder : List Node → OrderRefusal → Type 0
RefusesOrder ns (order.NotCanonical i) = IsFirstOut ns i
RefusesOrder ns (order.NotShared i j) = ⊥
RefusesOrder ns order.OutOfMemory = Unit {0}

-- two nodes are equal; of all such pairs it has the least second one, and of those with this one the least first
pub record IsFirstEqual (ns : List Node) (ts : Typing) (first second : ℕ) : Type 0 where
  pub below : first < second
  pub same : AreSame ns ts first second
  pub second_least : (i j : ℕ) → i < j → AreSame ns ts i j → second ≤ j
  pub first_least : (i : ℕ) → i < second → AreSame ns ts i second → first ≤ i

-- a refusal for want of sharing
abbrev pub RefusesShared : List Node → Typing → OrderRefusal → Type 0
RefusesShared ns ts (order.NotCanonical i) = ⊥
RefusesShared ns ts (order.NotShared i j) = IsFirstEqual ns ts i j
RefusesShared ns ts order.OutOfMemory = Unit {0}

-- the list has a typing with this root arrow
pub record HasTyping (ns : List Node) (root : Arrow) : Type 0 where
  pub typing : Typing
  pub typed : IsTypingAt ns root typing

-- the list reordered at an arrow has no type above the limit, but too many nodes
pub record ReorderedIsLong (ns : List Node) (root : Arrow) : Type 0 where
  pub nodes : List Node
  pub typing : Typing
  pub places : List ℕ
  pub reordered : IsReordered ns root nodes typing places
  pub light : IsLight most_weight typing
  pub long : most_nodes < length nodes

-- a refusal of a typing says that the least one has a type above the limit
abbrev pub OnTooLarge : CanonRefusal → Type 0 → Type 0
OnTooLarge canon.TypeTooLarge heavy = heavy
OnTooLarge canon.TooManyNodes heavy = ⊥
OnTooLarge canon.OutOfMemory heavy = Unit {0}

-- a refusal of a list that was to be reordered at an arrow
abbrev pub RefusesReordered : List Node → Arrow → CanonRefusal → Type 0
RefusesReordered ns root canon.TypeTooLarge = LeastIsHeavy (gathered ns) root
RefusesReordered ns root canon.TooManyNodes = ReorderedIsLong ns root
RefusesReordered ns root canon.OutOfMemory = Unit {0}
