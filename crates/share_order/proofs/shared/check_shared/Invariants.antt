-- Invariants of `check_shared`: whether no two nodes other than witnesses are equal in kind, in what
-- they carry, in their children and in their arrow.
use Rattle.share_order.specs.Keys.{keys_of, KeysDiffer}
use Rattle.share_order.proofs.Keyed.{IsSelfSame, AreWide}
use Rattle.share_order.proofs.Sharings.{OwnKeys}
use Rattle.share_order.proofs.shared.check_shared.Given as goal

abbrev pub invariant-loop-index : goal.invariant-loop-index
invariant-loop-index l = record {
  own : OwnKeys l.nodes l.typing l.index (keys_of l.keys.keys);
  differ : KeysDiffer (keys_of l.keys.keys);
  self : IsSelfSame l.keys.keys;
  wide : AreWide l.keys.keys;
}
