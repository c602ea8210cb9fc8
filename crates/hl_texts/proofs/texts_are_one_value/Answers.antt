-- Answers to the goals of `texts_are_one_value`: a text is a value text of a type for one value at most.
use Rattle.hl_texts.proofs.One.{text_is_one}
use Rattle.hl_texts.proofs.texts_are_one_value.Goals as goal

pub returns : goal.returns
returns c = text_is_one
