-- Invariants of `witness_numbers`: for each node how many witness nodes stand before it.
use Rattle.std.proofs.Common.{◌≡◌, map}
use Rattle.std.specs.List.{range_with_len}
use Rattle.simplicity.specs.Nodes.{witness_number}
use Rattle.canon_list.proofs.gathering.witness_numbers.Given as goal

abbrev pub invariant-loop-index : goal.invariant-loop-index
invariant-loop-index l = record {
  numbers : l.numbers.items ≡ map (witness_number l.nodes) (range_with_len 0 l.index);
  count : l.count ≡ witness_number l.nodes l.index;
}
