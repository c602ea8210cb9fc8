-- Answers to the goals of `one_function`: the law that a text is a small source of one function at most.
use Rattle.small_source.proofs.Complete.{one_function}
use Rattle.small_source.proofs.read.one_function.Goals as goal

pub returns : goal.returns
returns c = one_function
