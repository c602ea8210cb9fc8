-- Answers to the goals of `entries_in`: the entries of the witnesses in a file.
use Rattle.std.proofs.Common.{◌∙◌}
use Rattle.checked_source.proofs.Leading.{witnesses_read, witnesses_stop}
use Rattle.checked_source.proofs.witness.entries_in.Goals as goal

pub returns-in-Ok-clause-read : goal.returns-in-Ok-clause-read
returns-in-Ok-clause-read c = witnesses_read c.args.file.now c.wanted_in.result.now _ c.in-Ok.entries c.wanted_in.ensures c.in-Ok.ensures.read

pub returns-in-Ok-clause-wanted : goal.returns-in-Ok-clause-wanted
returns-in-Ok-clause-wanted c = c.in-Ok.ensures.wanted ∙ c.wanted_in.ensures

pub returns-clause-read : goal.returns-clause-read
returns-clause-read c = witnesses_stop c.args.file.now c.wanted_in.result.now _ c.in-Err.refusal c.refused_witnesses.result c.wanted_in.ensures c.in-Err.ensures.read c.refused_witnesses.ensures
