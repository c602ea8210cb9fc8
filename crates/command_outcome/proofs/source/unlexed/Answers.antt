-- Answers to the goals of `unlexed`: a fault of the tokens.
use Rattle.command_outcome.proofs.source.unlexed.Goals as goal

pub returns-in-BadCharacter : goal.returns-in-BadCharacter
returns-in-BadCharacter c = rw c.in-BadCharacter.is c.refused_span.ensures

pub returns-in-OpenComment : goal.returns-in-OpenComment
returns-in-OpenComment c = rw c.in-OpenComment.is c.refused_span-in-OpenComment.ensures
