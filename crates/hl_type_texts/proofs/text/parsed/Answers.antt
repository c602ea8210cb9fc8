-- Answers to the goals of `parsed`: the tree of a type text's tokens.
use Rattle.hl_type_texts.proofs.text.parsed.Goals as goal

pub returns-in-Err-Syntax : goal.returns-in-Err-Syntax
returns-in-Err-Syntax c = record { none = λ tree h. rw c.in-Err-Syntax.field-0-is at (c.in-Err-Syntax.ensures.types tree h) }

pub returns-in-Err-TooDeep : goal.returns-in-Err-TooDeep
returns-in-Err-TooDeep c = record { none = λ tree h. rw c.in-Err-TooDeep.field-0-is at (c.in-Err-TooDeep.ensures.types tree h) }
