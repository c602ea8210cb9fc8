-- Answers to the goals of `held_constructs_stand_law`: an expression holds such a construct exactly
-- where one stands in it at some place.
use Rattle.hl_constructs.proofs.Stands.{held_stands}
use Rattle.hl_constructs.proofs.laws.held_constructs_stand_law.Goals as goal

pub returns : goal.returns
returns c = held_stands
