-- Measures of `push_items`: puts the items of a list at a level at the end.
use Rattle.hl_values.proofs.decode.+push_items.Given as goal

abbrev pub decreases-push_items : goal.decreases-push_items
decreases-push_items l = l.level
