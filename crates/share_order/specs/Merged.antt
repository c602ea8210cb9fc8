-- An ordered list merged in one pass.
use Rattle.std.specs.Prelude.{◌≡◌, ℕ, List, length}
use Rattle.simplicity.specs.Nodes.{Node, IsPlaced}
use Rattle.simplicity.specs.Typing.{Typing}
use Rattle.simplicity.specs.Shared.{IsShared}
use Rattle.simplicity.specs.Pruning.{IsMerged}
use Rattle.sharing.specs.Laws.{ComeInOrder}

-- the second list is the first one merged, no two of its nodes but witnesses are equal, and the new places come in order
pub record IsMergedInOrder (ns : List Node) (ts : Typing) (ms : List Node) (us : Typing) (place : ℕ → ℕ) : Type 0 where
  pub placed : IsPlaced ms
  pub merged : IsMerged ns ts ms us place
  pub shared : IsShared ms us
  pub count : length us ≡ length ms
  pub in_order : ComeInOrder place ns ms
