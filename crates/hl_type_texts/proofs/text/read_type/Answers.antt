-- Answers to the goals of `read_type`: the type that a type text is.
use Rattle.hl_type_texts.proofs.Typing.{type_answered, tree_refused}
use Rattle.hl_type_texts.proofs.text.read_type.Goals as goal

pub returns-in-Ok-parsed-clause-read : goal.returns-in-Ok-parsed-clause-read
returns-in-Ok-parsed-clause-read c =
    type_answered c.args.text.now c.in-Ok.found c.as_slice.result.now c.in-Ok-parsed.tree c.get.result.now c.walked.result c.in-Ok.ensures c.as_slice.ensures c.in-Ok-parsed.ensures c.get.ensures c.walked.ensures.walked

pub returns-in-Ok-clause-read : goal.returns-in-Ok-clause-read
returns-in-Ok-clause-read c = tree_refused c.args.text.now c.in-Ok.found c.as_slice.result.now c.in-Err-parsed.refusal c.in-Ok.ensures c.as_slice.ensures c.in-Err-parsed.ensures
