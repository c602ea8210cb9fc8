-- Answers to the goals of `places_count_law`: a reading's places count bits from the program's first.
use Rattle.spelling.proofs.Counted.{places_count}
use Rattle.spelling.proofs.places_count_law.Goals as goal

pub returns : goal.returns
returns c = places_count
