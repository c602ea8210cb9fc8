-- Answers to the goals of `numbers_nodes` in `tables`.
use Rattle.std.proofs.Common.{refl}
use Rattle.simplicity.specs.Types.{One}
use Rattle.term_core.proofs.Follow.{iden_follows, comp_follows}
use Rattle.core_rows.proofs.tables.numbers_nodes.Goals as goal

pub add-requires-clause-follows : goal.add-requires-clause-follows
add-requires-clause-follows g c = iden_follows _ c.new-table.result _ _ One c.in_ok-unit.ensures.ok c.in_ok-unit.ensures.ok

pub add-requires-2-clause-follows : goal.add-requires-2-clause-follows
add-requires-2-clause-follows g c =
    comp_follows _ _ _ _ _ _ _ _ One One One c.in_ok-first.ensures.ok c.in_ok-first.ensures.ok (rw c.in_ok-unit.ensures.ok.is refl) (rw c.in_ok-unit.ensures.ok.is refl)
    c.in_ok-unit.ensures.ok c.in_ok-unit.ensures.ok
