-- Answers to the goals of `check_source`: the typed program of a source, which has the function that is
-- asked for.
use Rattle.std.proofs.Common.{refl}
use Rattle.checked_source.specs.Parts.{asking_of}
use Rattle.checked_source.proofs.Leading.{source_stops, tree_leads}
use Rattle.checked_source.proofs.source.check_source.Goals as goal

pub returns-in-Ok-clause-checked : goal.returns-in-Ok-clause-checked
returns-in-Ok-clause-checked c = tree_leads (asking_of c.args.asked) c.args.source.now _ c.in-Ok.program c.check_tree.result c.in-Ok.ensures refl c.check_tree.ensures.checked

pub returns-in-Err-clause-checked : goal.returns-in-Err-clause-checked
returns-in-Err-clause-checked c = source_stops (asking_of c.args.asked) c.args.source.now c.in-Err.stop c.in-Err.ensures
