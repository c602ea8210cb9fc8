-- Answers to the goals of `terms_are_typed_law`: the terms of a table meet the typing table at every place.
use Rattle.term_core.proofs.TypedTerms.{terms_are_typed}
use Rattle.term_core.proofs.laws.terms_are_typed_law.Goals as goal

pub returns : goal.returns
returns c = terms_are_typed
