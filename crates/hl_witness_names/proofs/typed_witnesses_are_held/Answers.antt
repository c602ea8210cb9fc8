-- Answers to the goals of `typed_witnesses_are_held`: the same of a typed program.
use Rattle.hl_witness_names.proofs.typed_witnesses_are_held.Goals as goal

pub returns : goal.returns
returns c =
    let h = c.breaks_nothing.ensures in
    c.answered_witnesses_are_held.ensures h.program h.asked h.entries c.args.program.now.edition h.end c.args.program.now h.valued h.is
