-- Invariants of `list_rows`: the rows of a table up to one, as a list that ends with the node of that row.
use Rattle.row_lists.proofs.Listing.{Listing}
use Rattle.row_lists.proofs.list.list_rows.Given as goal

abbrev pub invariant-loop-id : goal.invariant-loop-id
invariant-loop-id l = Listing l.types l.table l.id l.nodes l.arrows l.names.items l.places.items
