-- Answers to the goals of `parsed`: the tree of a value text's tokens.
use Rattle.hl_values.proofs.read.parsed.Goals as goal

pub returns-in-Err-Syntax : goal.returns-in-Err-Syntax
returns-in-Err-Syntax c = record { none = λ tree h. rw c.in-Err-Syntax.field-0-is at (c.in-Err-Syntax.ensures.values tree h) }

pub returns-in-Err-TooDeep : goal.returns-in-Err-TooDeep
returns-in-Err-TooDeep c = record { none = λ tree h. rw c.in-Err-TooDeep.field-0-is at (c.in-Err-TooDeep.ensures.values tree h) }

pub returns-in_ok-new-in-Ok : goal.returns-in_ok-new-in-Ok
returns-in_ok-new-in-Ok c = rw c.in_ok-new-in-Ok.ensures (record { stands = c.in-Ok.ensures.is_value; one = λ other h. c.in-Ok.ensures.values other h })
