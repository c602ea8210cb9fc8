-- Answers to the goals of `xor` in `bits`.
use Rattle.std.proofs.lemmas.Nat.{xor_lt}
use Rattle.word_math.proofs.bits.xor.Goals as goal

pub narrow-requires-clause-fits : goal.narrow-requires-clause-fits
narrow-requires-clause-fits c = xor_lt c.args.n _ _ c.two-a.ensures.first c.two-a.ensures.second
