-- Answers to the goals of `read_tokens`: the tree of tokens, in a text of so many bytes.
use Rattle.command_outcome.proofs.Sources.{dead_tokens, deep_tokens}
use Rattle.command_outcome.proofs.source.read_tokens.Goals as goal

pub returns-in-Err-Syntax : goal.returns-in-Err-Syntax
returns-in-Err-Syntax c =
    dead_tokens c.args.found.now c.args.end c.in-Err-Syntax.at c.refused_span.result (rw c.in-Err-Syntax.field-0-is at c.in-Err-Syntax.ensures.cause) c.refused_span.ensures

pub returns-in-Err-TooDeep : goal.returns-in-Err-TooDeep
returns-in-Err-TooDeep c =
    deep_tokens c.args.found.now c.args.end c.in-Err-TooDeep.field-0-0 c.passed_limit.result (rw c.in-Err-TooDeep.field-0-is at c.in-Err-TooDeep.ensures.cause) c.passed_limit.ensures
