-- Answers to the goals of `texts_agree`: a text that is an expression of forms of values is a value text
-- of a sound type exactly where its walk as an expression at the type breaks no rule, and then for the
-- value that it means.
use Rattle.hl_value_walks.proofs.Texts as texts
use Rattle.hl_value_walks.proofs.texts_agree.Goals as goal

pub returns : goal.returns
returns c = texts.texts_agree
