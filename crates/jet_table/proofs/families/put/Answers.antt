-- Answers to the goals of `put`: writes the rows of a family from a place on, and gives the place after them.
use Rattle.std.proofs.Common.{take, ap, ◌∙◌}
use Rattle.std.proofs.lemmas.List.{map-append}
use Rattle.jet_table.specs.Rows.{row_of, rows_of}
use Rattle.jet_table.proofs.Packed.{written_packed}
use Rattle.jet_table.proofs.families.put.Goals as goal

pub returns-clause-written : goal.returns-clause-written
returns-clause-written c = ap rows_of c.write.ensures.written ∙ map-append row_of _ _

pub returns-clause-packed : goal.returns-clause-packed
returns-clause-packed c = written_packed (take c.args.at c.args.rows.now) c.args.family.now _ c.write.ensures.written
