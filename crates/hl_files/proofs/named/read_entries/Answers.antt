-- Answers to the goals of `read_entries`: the entries of these names that a data file has, in the names'
-- order.
use Rattle.serde_json.specs.View.{view}
use Rattle.hl_files.proofs.Readings.{are_named, reads_from}
use Rattle.hl_files.proofs.named.read_entries.Goals as goal

pub returns-in-Ok-clause-read : goal.returns-in-Ok-clause-read
returns-in-Ok-clause-read c = reads_from c.args.text.now c.args.names.now (view c.in-Ok.file) c.entries_at.result c.in-Ok.ensures c.entries_at.ensures.finds

pub returns-in-Ok-clause-named : goal.returns-in-Ok-clause-named
returns-in-Ok-clause-named c = are_named c.args.text.now c.args.names.now (view c.in-Ok.file) c.entries_at.result c.in-Ok.ensures c.entries_at.ensures.finds
