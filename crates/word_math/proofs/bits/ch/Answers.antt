-- Answers to the goals of `ch` in `bits`.
use Rattle.std.proofs.lemmas.Nat.{or_lt}
use Rattle.word_math.proofs.Fits.{and_lt_left, and_lt_right}
use Rattle.word_math.proofs.bits.ch.Goals as goal

pub narrow-requires-clause-fits : goal.narrow-requires-clause-fits
narrow-requires-clause-fits c =
    or_lt c.args.n _ _ (and_lt_left c.args.n _ _ c.three-a.ensures.first) (and_lt_right c.args.n _ _ c.three-a.ensures.third)
