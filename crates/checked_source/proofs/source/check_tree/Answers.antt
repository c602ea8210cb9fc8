-- Answers to the goals of `check_tree`: the steps from the parameters' entries on, of a source that ends
-- there.
use Rattle.checked_source.specs.Parts.{asking_of}
use Rattle.checked_source.proofs.Leading.{entries_lead, entries_stop}
use Rattle.checked_source.proofs.source.check_tree.Goals as goal

pub returns-in-Ok-clause-checked : goal.returns-in-Ok-clause-checked
returns-in-Ok-clause-checked c =
    entries_lead (asking_of c.args.asked) c.args.end c.args.program.now c.object_in.result.now c.in_ok-names.names c.in-Ok.params c.check_rules.result c.object_in.ensures c.in_ok-names.ensures c.in-Ok.ensures.read c.check_rules.ensures.checked

pub returns-clause-checked : goal.returns-clause-checked
returns-clause-checked c =
    entries_stop (asking_of c.args.asked) c.args.end c.args.program.now c.object_in.result.now c.in_ok-names.names c.in-Err.refusal c.refused_args.result c.object_in.ensures c.in_ok-names.ensures c.in-Err.ensures.read c.refused_args.ensures
