-- Answers to the goals of `first`: from `add` to `div_mod`.
use Rattle.jet_table.proofs.Written.{seven_in_turn}
use Rattle.jet_table.proofs.table.first.Goals as goal

pub returns-clause-written : goal.returns-clause-written
returns-clause-written c =
    seven_in_turn _ _ _ _ _ _ _ _ _ _ _ _ _ _ _
    c.add-at.ensures.written
    c.all-at.ensures.written
    c.and-at.ensures.written
    c.ch-at.ensures.written
    c.complement-at.ensures.written
    c.decrement-at.ensures.written
    c.div_mod.ensures.written
