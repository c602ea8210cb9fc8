-- Invariants of `first_witnesses`: each witness at its first place alone.
use Rattle.std.proofs.Common.{◌≡◌, [], length}
use Rattle.std.specs.Vec.Iter.{into_iter_items, into_iter_len}
use Rattle.hl_rules.specs.Witnesses.{first_witnesses}
use Rattle.hl_scope.proofs.FirstPlaces.{with_rest}
use Rattle.hl_scope.proofs.witnesses.first_witnesses.Given as goal

abbrev pub invariant-witnesses : goal.invariant-witnesses
invariant-witnesses l = record {
  can : (goal.iterator-witnesses).can_next l.witness-iterator;
  finite : (goal.iterator-witnesses).is_finite l.witness-iterator;
  long : length (into_iter_items l.witness-iterator) ≡ into_iter_len l.witness-iterator;
  found : with_rest l.found (into_iter_items l.witness-iterator) ≡ first_witnesses [] l.fn.met;
}
