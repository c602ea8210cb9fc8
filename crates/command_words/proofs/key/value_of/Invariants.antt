-- Invariants of `value_of`: the first value that words give a key.
use Rattle.std.proofs.Common.{◌≡◌}
use Rattle.std.proofs.Math.ListN.{drop}
use Rattle.command_words.specs.Keys.{value_of}
use Rattle.command_words.specs.Words.{texts}
use Rattle.command_words.proofs.key.value_of.Given as goal

abbrev pub invariant-words : goal.invariant-words
invariant-words l = value_of l.key (texts (drop l.word-index l.words)) ≡ value_of l.key (texts l.words)
