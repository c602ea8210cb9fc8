-- Answers to the goals of `rows_are_made_law`: a row of this node and these types may be added to the
-- table, and means the term that is made of the terms of its children.
use Rattle.term_makers.proofs.Made.{rows_are_made}
use Rattle.term_makers.proofs.rows_are_made_law.Goals as goal

pub returns : goal.returns
returns c = rows_are_made
