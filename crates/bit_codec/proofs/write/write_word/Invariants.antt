-- Invariants of `write_word`: appends the code, the width and the bits of a word.
use Rattle.std.proofs.Common.{◌≡◌, ◌++◌, take}
use Rattle.simplicity.specs.Spelling.{number_bits}
use Rattle.bit_codec.proofs.write.write_word.Given as goal

abbrev pub invariant-loop-place : goal.invariant-loop-place
invariant-loop-place l = l.writer ≡ l.initial.writer ++ take l.place (number_bits l.word.width l.word.number)
