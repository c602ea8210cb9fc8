-- The old places of a reordered list's nodes: for each node of the new list the least old place that became it (this project's own).
use Rattle.std.specs.Prelude.{◌≡◌, ℕ, ◌≤◌, List, length, Some, slice_get, nat_eq}
use Rattle.std.specs.List.{position_or_len}
use Rattle.simplicity.specs.Nodes.{Node}
use Rattle.simplicity.specs.Order.{post_order, IsReached}

-- the node at an old place is reached, and became the node at a new one; `place` says where each goes by its position in the post-order
pub record Became (ns : List Node) (place : ℕ → ℕ) (old new : ℕ) : Type 0 where
  pub reached : IsReached ns old
  pub goes : place (position_or_len (nat_eq old) (post_order ns)) ≡ new

-- for each node of the new list the least old place that became it
pub record ArePlaces (ns ms : List Node) (place : ℕ → ℕ) (places : List ℕ) : Type 0 where
  pub count : length places ≡ length ms
  pub became : (new old : ℕ) → slice_get places new ≡ Some old → Became ns place old new
  pub least : (new old other : ℕ) → slice_get places new ≡ Some old → Became ns place other new → old ≤ other
