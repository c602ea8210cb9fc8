-- Answers to the goals of `maj` in `bits`.
use Rattle.std.proofs.lemmas.Nat.{or_lt}
use Rattle.word_math.proofs.Fits.{and_lt_left}
use Rattle.word_math.proofs.bits.maj.Goals as goal

pub narrow-requires-clause-fits : goal.narrow-requires-clause-fits
narrow-requires-clause-fits c =
    or_lt c.args.n _ _
    (or_lt c.args.n _ _ (and_lt_left c.args.n _ _ c.three-a.ensures.first) (and_lt_left c.args.n _ _ c.three-a.ensures.first))
    (and_lt_left c.args.n _ _ c.three-a.ensures.second)
