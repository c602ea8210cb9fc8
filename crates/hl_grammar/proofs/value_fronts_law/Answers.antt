-- Answers to the goals of `value_fronts_law`: the same for value texts.
use Rattle.simplicityhl.specs.Grammar as grammar
use Rattle.hl_grammar.specs.Read as read
use Rattle.hl_grammar.proofs.Places.{has_fronts}
use Rattle.hl_grammar.proofs.Readables.{values}
use Rattle.hl_grammar.proofs.value_fronts_law.Goals as goal

pub returns : goal.returns
returns c = has_fronts grammar.value read.value values
