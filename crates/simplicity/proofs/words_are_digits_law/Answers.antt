-- Answers to the goals of `words_are_digits_law`: digits are the numbers of their width, and the values
-- of its type.
use Rattle.simplicity.proofs.Digits.{words_are_digits}
use Rattle.simplicity.proofs.words_are_digits_law.Goals as goal

pub returns : goal.returns
returns c = words_are_digits
