-- Answers to the goals of `word_number` in `value`.
use Rattle.std.proofs.Common.{arith}
use Rattle.word_math.proofs.Halved.{joined, no_second}
use Rattle.word_math.proofs.value.+word_number.Goals as goal

pub returns-in-None-word_number-clause-none : goal.returns-in-None-word_number-clause-none
returns-in-None-word_number-clause-none t c =
    rw (c.in-Pair.is, ← c.deref-in-Some.ensures) (no_second c.args.level _ _ (omega arith) c.in-None-word_number.ensures.none)

pub returns-in-Some-word_number-clause-found : goal.returns-in-Some-word_number-clause-found
returns-in-Some-word_number-clause-found t c =
    rw (c.in-Pair.is, ← c.deref.ensures, ← c.deref-in-Some.ensures)
    (joined c.args.level c.half-behind.result c.in-Some.high c.in-Some-word_number.low _ _ (omega arith) c.requires c.half-behind.ensures.value
    c.in-Some.ensures.found c.in-Some-word_number.ensures.found)
