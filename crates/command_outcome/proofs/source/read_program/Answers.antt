-- Answers to the goals of `read_program`: the tree of a source.
use Rattle.command_outcome.proofs.Sources.{no_text}
use Rattle.command_outcome.proofs.source.read_program.Goals as goal

pub returns-in-Err : goal.returns-in-Err
returns-in-Err c =
    let cases = c.in-Err.ensures.cases in
    no_text c.args.source.now c.valid_up_to-at.result c.refused_source.result (rw c.valid_up_to-at.ensures cases.1) c.refused_source.ensures
