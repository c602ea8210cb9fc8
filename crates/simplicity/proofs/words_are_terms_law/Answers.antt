-- Answers to the goals of `words_are_terms_law`: a word has the root and the meaning of the term that
-- pairs its halves.
use Rattle.simplicity.proofs.More.{words_are_terms}
use Rattle.simplicity.proofs.words_are_terms_law.Goals as goal

pub returns : goal.returns
returns c = words_are_terms
