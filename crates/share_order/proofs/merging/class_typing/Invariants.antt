-- Invariants of `class_typing`: the arrows of the classes.
use Rattle.std.proofs.Common.{◌≡◌, take}
use Rattle.share_order.specs.Keys.{keys_of, arrows_in}
use Rattle.share_order.proofs.merging.class_typing.Given as goal

abbrev pub invariant-loop-index : goal.invariant-loop-index
invariant-loop-index l = l.typing ≡ take l.index (arrows_in (keys_of l.keys.keys))
