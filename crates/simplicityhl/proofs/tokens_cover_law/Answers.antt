-- Answers to the goals of `tokens_cover_law`: the tokens of a text cover it: what lies around them is
-- white space and comments.
use Rattle.simplicityhl.proofs.Cover.{tokens_cover}
use Rattle.simplicityhl.proofs.tokens_cover_law.Goals as goal

pub returns : goal.returns
returns c = tokens_cover
