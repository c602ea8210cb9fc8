-- Answers to the goals of `read_wanted`: the entries of wanted names, each of the wanted type, in the
-- names' order.
use Rattle.serde_json.specs.View.{view}
use Rattle.hl_files.proofs.Readings.{reads_wanted_from, names_are_wanted}
use Rattle.hl_files.proofs.asked.read_wanted.Goals as goal

pub returns-in-Ok-clause-read : goal.returns-in-Ok-clause-read
returns-in-Ok-clause-read c = reads_wanted_from c.args.text.now c.args.wanted.now (view c.in-Ok.file) c.entries_for.result c.in-Ok.ensures c.entries_for.ensures.finds

pub returns-in-Ok-clause-wanted : goal.returns-in-Ok-clause-wanted
returns-in-Ok-clause-wanted c = names_are_wanted (view c.in-Ok.file) c.args.wanted.now c.entries_for.result c.entries_for.ensures.finds
