-- Answers to the goals of `write_word`: appends the code, the width and the bits of a word.
use Rattle.std.proofs.Common.{arith, ◌<◌}
use Rattle.bit_codec.proofs.Carried.{word_next}
use Rattle.bit_codec.proofs.write.write_word.Goals as goal

pub loop-place-preserved : goal.loop-place-preserved
loop-place-preserved c =
    let within : c.loop-place.place < c.args.word.now.width = omega (arith, c.width-place-end.ensures.value, c.loop-place-test.true) in
    word_next c.args.word.now.width c.loop-place.place c.args.word.now.number c.push_natural.new.self c.loop-place.writer c.push.new.self within
    c.loop-place.invariant (rw c.bit.ensures at c.in_ok-push.ensures.ok)
