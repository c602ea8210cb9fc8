-- Measures of `push_parts`: puts the parts of a tuple by halves, of which there are so many, at the end.
use Rattle.hl_values.proofs.decode.+push_parts.Given as goal

abbrev pub decreases-push_parts : goal.decreases-push_parts
decreases-push_parts l = l.count
