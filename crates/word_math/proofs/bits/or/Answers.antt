-- Answers to the goals of `or` in `bits`.
use Rattle.std.proofs.lemmas.Nat.{or_lt}
use Rattle.word_math.proofs.bits.or.Goals as goal

pub narrow-requires-clause-fits : goal.narrow-requires-clause-fits
narrow-requires-clause-fits c = or_lt c.args.n _ _ c.two-a.ensures.first c.two-a.ensures.second
