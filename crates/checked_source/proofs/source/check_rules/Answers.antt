-- Answers to the goals of `check_rules`: the rules and limits.
use Rattle.checked_source.proofs.Leading.{rules_pass, rules_stop}
use Rattle.checked_source.proofs.There.{asked_there}
use Rattle.checked_source.proofs.source.check_rules.Goals as goal

pub returns-in-Ok-clause-checked : goal.returns-in-Ok-clause-checked
returns-in-Ok-clause-checked c = rules_pass _ c.in-Ok.typed c.in-Ok.ensures.answers

pub returns-in-Ok-clause-there : goal.returns-in-Ok-clause-there
returns-in-Ok-clause-there c = asked_there c.args.program.now c.args.asked.function.now c.args.params.now c.args.asked.edition c.args.end c.in-Ok.typed c.in-Ok.ensures.answers

pub returns-in-Err-clause-checked : goal.returns-in-Err-clause-checked
returns-in-Err-clause-checked c = rules_stop _ c.in-Err.refusal c.refused_program.result c.in-Err.ensures.answers c.refused_program.ensures
