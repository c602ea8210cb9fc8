-- Answers to the goals of `xor_xor` in `bits`.
use Rattle.std.proofs.lemmas.Nat.{xor_lt}
use Rattle.word_math.proofs.bits.xor_xor.Goals as goal

pub narrow-requires-clause-fits : goal.narrow-requires-clause-fits
narrow-requires-clause-fits c =
    xor_lt c.args.n _ _ (xor_lt c.args.n _ _ c.three-a.ensures.first c.three-a.ensures.second) c.three-a.ensures.third
