-- Answers to the goals of `type_fronts_law`: types: viable tokens can be completed, and all tokens are a
-- type, dead at a place, or too deep from a token on.
use Rattle.simplicityhl.specs.Grammar as grammar
use Rattle.hl_grammar.specs.Read as read
use Rattle.hl_grammar.proofs.Places.{has_fronts}
use Rattle.hl_grammar.proofs.Readables.{types}
use Rattle.hl_grammar.proofs.type_fronts_law.Goals as goal

pub returns : goal.returns
returns c = has_fronts grammar.type read.type types
