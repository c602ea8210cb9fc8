-- Answers to the goals of `answered_rules_are_broken`: what the walk finds first is broken.
use Rattle.hl_rules.proofs.Items.{answered}
use Rattle.hl_rules.proofs.answered_rules_are_broken.Goals as goal

pub returns : goal.returns
returns c = answered
