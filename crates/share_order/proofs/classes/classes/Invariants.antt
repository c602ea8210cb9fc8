-- Invariants of `classes` in `classes`.
use Rattle.std.proofs.Common.{◌≡◌, length, Option}
use Rattle.simplicity.specs.Nodes.{IsPlaced}
use Rattle.infer_cells.specs.declared.typing.NodeArrow.{NodeArrow}
use Rattle.share_order.specs.Keys.{Classes, keys_of, nodes_in, KeysDiffer}
use Rattle.share_order.proofs.Keyed.{IsSelfSame, AreWide}
use Rattle.share_order.proofs.classes.classes.Given as goal

abbrev pub invariant-loop-index : goal.invariant-loop-index
invariant-loop-index l = record {
  classes : Classes (Option NodeArrow) l.nodes l.typing (keys_of l.keys.keys) l.places.items;
  count : length l.places.items ≡ l.index;
  placed : IsPlaced (nodes_in (keys_of l.keys.keys));
  differ : KeysDiffer (keys_of l.keys.keys);
  self : IsSelfSame l.keys.keys;
  wide : AreWide l.keys.keys;
}
