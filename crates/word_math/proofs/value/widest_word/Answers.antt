-- Answers to the goals of `widest_word`: the word of 256 bits that a value is.
use Rattle.word_math.proofs.Halved.{halves, widest}
use Rattle.word_math.proofs.value.widest_word.Goals as goal

pub returns-in-Some-word_number-clause-found : goal.returns-in-Some-word_number-clause-found
returns-in-Some-word_number-clause-found c =
    rw (c.in-Pair.is, ← c.deref.ensures, ← c.deref-in-Some.ensures)
    (widest c.new.result c.in-Some.high c.in-Some-word_number.low _ c.new.ensures.value
    (halves 7 c.in-Some.high c.in-Some-word_number.low _ _ c.in-Some.ensures.found c.in-Some-word_number.ensures.found))
