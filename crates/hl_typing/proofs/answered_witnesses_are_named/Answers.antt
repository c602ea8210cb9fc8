-- Answers to the goals of `answered_witnesses_are_named`: its witnesses are those that the source text
-- names, in the text's order.
use Rattle.hl_typing.proofs.Witnesses.{answered_named}
use Rattle.hl_typing.proofs.answered_witnesses_are_named.Goals as goal

pub returns : goal.returns
returns c = answered_named
