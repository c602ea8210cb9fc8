-- Answers to the goals of `deeper_values_are_refused`: the printed text of a value that is nested deeper
-- is no value text.
use Rattle.hl_texts.proofs.RoundTrip.{deeper_is_no_text}
use Rattle.hl_texts.proofs.deeper_values_are_refused.Goals as goal

pub returns : goal.returns
returns c = deeper_is_no_text
