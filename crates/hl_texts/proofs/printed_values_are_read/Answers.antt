-- Answers to the goals of `printed_values_are_read`: the printed text of a value is a value text for
-- this value, where it is nested at most as deep as the grammar allows.
use Rattle.hl_texts.proofs.RoundTrip.{printed_is_read}
use Rattle.hl_texts.proofs.printed_values_are_read.Goals as goal

pub returns : goal.returns
returns c = printed_is_read
