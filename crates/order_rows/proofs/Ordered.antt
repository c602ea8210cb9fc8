-- A list's least typing has an entry for each node.
use Rattle.std.proofs.Common.{◌≡◌, sym, ◌∙◌, List, length, Option}
use Rattle.std.proofs.lemmas.List.{length-map}
use Rattle.simplicity.specs.Types.{Kind}
use Rattle.simplicity.specs.Nodes.{Node}
use Rattle.simplicity.specs.Typing.{Arrow, IsLeast}
use Rattle.simplicity.proofs.Typings.{typing_length}
use Rattle.infer_cells.specs.Typings.{arrow_in, typing_in}
use Rattle.infer_cells.specs.declared.typing.NodeArrow.{NodeArrow}

pub as_long : (ns : List Node) (root : Arrow) (kinds : List Kind) (ids : List (Option NodeArrow)) → IsLeast ns root (typing_in kinds ids) → length ids ≡ length ns
as_long ns root kinds ids least = sym (length-map ids (arrow_in kinds)) ∙ typing_length (typing_in kinds ids) ns (typing_in kinds ids) least.typing.typed
