-- Answers to the goals of `spans_rise_law`: the spans of a text's tokens rise, are disjoint and lie in
-- the text.
use Rattle.simplicityhl.proofs.Cover.{spans_rise}
use Rattle.simplicityhl.proofs.spans_rise_law.Goals as goal

pub returns : goal.returns
returns c = spans_rise
