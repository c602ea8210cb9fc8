-- Answers to the goals of `walks_agree`: an expression of forms of values is a value of a sound type
-- exactly where its walk as an expression at the type breaks no rule, and then its typed tree means that
-- value.
use Rattle.hl_value_walks.proofs.Walking.{agree}
use Rattle.hl_value_walks.proofs.walks_agree.Goals as goal

pub returns : goal.returns
returns c e kind around scope rule met h sound = agree around scope met kind sound e h rule
