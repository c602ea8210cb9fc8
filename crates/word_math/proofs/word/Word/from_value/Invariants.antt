-- Invariants of `from_value`: the word that a value is; None where it is none of 1 to 256 bits.
use Rattle.std.proofs.Common.{ℕ, ◌<◌}
use Rattle.core_data.specs.Data.{value_of}
use Rattle.word_math.specs.Values.{IsNoWordOf}
use Rattle.word_math.proofs.word.Word.from_value.Given as goal

-- no word of a level before
abbrev pub invariant-loop-level : goal.invariant-loop-level
invariant-loop-level l = (k : ℕ) → k < l.level → IsNoWordOf k (value_of l.value)
