-- Invariants of `first_misfit`: the place of the first word that doesn't fit after those before it.
use Rattle.std.proofs.Common.{◌≡◌}
use Rattle.std.proofs.Math.ListN.{drop, take}
use Rattle.command_words.specs.Keys.{first_misfit, misfit_after}
use Rattle.command_words.specs.Words.{texts}
use Rattle.command_words.proofs.key.first_misfit.Given as goal

abbrev pub invariant-words : goal.invariant-words
invariant-words l = misfit_after l.keys (texts (take l.place l.words)) (texts (drop l.place l.words)) ≡ first_misfit l.keys (texts l.words)
