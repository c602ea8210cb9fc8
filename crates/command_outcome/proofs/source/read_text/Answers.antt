-- Answers to the goals of `read_text`: the tree of a source as text.
use Rattle.std.proofs.Common.{refl}
use Rattle.command_outcome.proofs.Sources.{first_fault, token_tree}
use Rattle.command_outcome.proofs.source.read_text.Goals as goal

pub returns-in-Ok : goal.returns-in-Ok
returns-in-Ok c = token_tree c.args.text.now c.as_slice.result.now _ c.read_tokens.result c.requires (rw c.as_slice.ensures c.in-Ok.ensures) refl c.read_tokens.ensures

pub returns-in-Err : goal.returns-in-Err
returns-in-Err c = first_fault c.args.text.now c.in-Err.refusal c.unlexed.result c.requires c.in-Err.ensures c.unlexed.ensures
