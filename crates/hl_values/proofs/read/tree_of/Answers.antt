-- Answers to the goals of `tree_of`: the tree of a value text.
use Rattle.hl_values.proofs.Texts.{tree_refused_at}
use Rattle.hl_values.proofs.read.tree_of.Goals as goal

pub returns-in-Ok : goal.returns-in-Ok
returns-in-Ok c = tree_refused_at c.args.text.now c.in-Ok.found c.as_slice.result.now c.in-Err-parsed.refusal c.in-Ok.ensures c.as_slice.ensures c.in-Err-parsed.ensures
