-- Invariants of `write_program`: the bytes of a program: the number of its nodes, the nodes, and fewer
-- than eight zero bits.
use Rattle.std.proofs.Common.{◌≡◌, ◌++◌, length, take}
use Rattle.simplicity.specs.Spelling.{natural, nodes_bits}
use Rattle.bit_codec.proofs.write.write_program.Given as goal

abbrev pub invariant-loop-index : goal.invariant-loop-index
invariant-loop-index l = l.writer ≡ natural (length l.nodes) ++ nodes_bits 0 (take l.index l.nodes)
