-- What a program and its witness stream are accepted as (this project's own, after the Simplicity Technical Report, "Serialization").
use Rattle.std.specs.Prelude.{ℕ, ◌≤◌, List, length}
use Rattle.simplicity.specs.Limits.{most_nodes, most_weight}
use Rattle.simplicity.specs.Types.{Value}
use Rattle.simplicity.specs.Nodes.{Node}
use Rattle.simplicity.specs.Typing.{Typing, Arrow, IsLight, witness_targets}
use Rattle.simplicity.specs.Shared.{IsCanonicalUnder}
use Rattle.simplicity.specs.Spelling.{Spelled, IsStream}

-- at the arrow, the bytes spell a canonical list of this least typing within the limits, and the stream has the values of its witness nodes
pub record Accepted (program stream : List ℕ) (root : Arrow) (ns : List Node) (ts : Typing) (witness : List Value) : Type 0 where
  pub spelled : Spelled program ns
  pub few : length ns ≤ most_nodes
  pub canonical : IsCanonicalUnder ns root ts
  pub light : IsLight most_weight ts
  pub values : IsStream stream (witness_targets ns ts) witness
