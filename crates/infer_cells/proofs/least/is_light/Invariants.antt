-- Invariants of `is_light`: whether no type of a typing has a tree of more than 4,194,304 nodes.
use Rattle.std.proofs.Common.{take}
use Rattle.simplicity.specs.Typing.{IsLight}
use Rattle.simplicity.specs.Limits.{most_weight}
use Rattle.infer_cells.specs.Typings.{typing_in}
use Rattle.infer_cells.proofs.least.is_light.Given as goal

abbrev pub invariant-loop-arrow : goal.invariant-loop-arrow
invariant-loop-arrow l = IsLight most_weight (typing_in l.types (take l.arrow-index l.typing))
