-- Answers to the goals of `write_bytes`: appends a code and the bits of bytes.
use Rattle.bit_codec.proofs.Carried.{byte_next}
use Rattle.bit_codec.proofs.write.write_bytes.Goals as goal

pub loop-byte-preserved : goal.loop-byte-preserved
loop-byte-preserved c =
    byte_next c.args.bytes.now c.loop-byte.byte-index c.push_number.new.self c.loop-byte.writer c.push_number-in-loop-byte.new.self c.loop-byte-test.true
    c.loop-byte.invariant (rw c.from.ensures at c.in_ok-push_number-2.ensures.ok)
