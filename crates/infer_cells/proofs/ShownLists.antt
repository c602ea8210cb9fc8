-- Lists without hidden nodes, which the tests make.
use Rattle.std.specs.Prelude.{◌≡◌, ℕ, ◌<◌, List, length, slice_get}
use Rattle.simplicity.specs.Nodes.{Node, IsShown}

pub record AllShown (ns : List Node) (count : ℕ) : Type 0 where
  pub count_is : length ns ≡ count
  pub shown : (i : ℕ) → i < count → IsShown (slice_get ns i)
