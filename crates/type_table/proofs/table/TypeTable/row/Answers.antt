-- Answers to the goals of `row`: the row of an id.
use Rattle.std.proofs.Common.{sym}
use Rattle.type_table.proofs.Tables.{row_is}
use Rattle.type_table.proofs.table.TypeTable.row.Goals as goal

pub returns-clause-row : goal.returns-clause-row
returns-clause-row c = row_is _ _ c.self.view_is c.self.invariant _ _ (sym c.in-Some.ensures.entry)
