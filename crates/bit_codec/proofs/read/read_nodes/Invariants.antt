-- Invariants of `read_nodes`: reads so many nodes, each of which is tested before the next is read.
use Rattle.std.proofs.Common.{◌≡◌, ◌-◌, length, []}
use Rattle.spelling.specs.Reading.{read_nodes}
use Rattle.cell_bits.specs.Places.{rest}
use Rattle.bit_codec.proofs.read.read_nodes.Given as goal

abbrev pub invariant-loop-index : goal.invariant-loop-index
invariant-loop-index l =
    (read_nodes l.count [] l.fn.bits.at (rest l.fn.bits) ≡ read_nodes (l.count - l._index) l.nodes l.bits.at (rest l.bits))
    × (l.bits.bits ≡ l.fn.bits.bits) × (length l.nodes ≡ l._index)
