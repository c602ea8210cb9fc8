-- Answers to the goals of `reading_answers_again`: reading what was printed answers the value again, or
-- that memory was short.
use Rattle.hl_texts.proofs.RoundTrip.{reads_again}
use Rattle.hl_texts.proofs.reading_answers_again.Goals as goal

pub returns : goal.returns
returns c = reads_again
