-- Invariants of `write_bytes`: appends a code and the bits of bytes.
use Rattle.std.proofs.Common.{◌≡◌, ◌++◌, take}
use Rattle.simplicity.specs.Spelling.{byte_bits}
use Rattle.bit_codec.proofs.write.write_bytes.Given as goal

abbrev pub invariant-loop-byte : goal.invariant-loop-byte
invariant-loop-byte l = l.writer ≡ l.initial.writer ++ byte_bits (take l.byte-index l.bytes)
