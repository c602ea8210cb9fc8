-- Answers to the goals of `names_the_later_first`: two witnesses of one arrow, of which the term takes that of
-- the later row first.
use Rattle.std.proofs.Common.{◌≡◌, refl, ◌<◌, arith}
use Rattle.simplicity.specs.Types.{One}
use Rattle.term_core.proofs.Follow.{witness_follows, comp_follows}
use Rattle.term_core.proofs.Growth.{means_kept}
use Rattle.row_lists.proofs.Meaning.{children_below}
use Rattle.order_rows.proofs.Tables.{row_kept, witness_new, comp_alone}
use Rattle.order_rows.proofs.canons.names_the_later_first.Goals as goal

pub add-requires-clause-follows : goal.add-requires-clause-follows
add-requires-clause-follows c = witness_follows _ c.new-table.result _ _ 5 One One c.in_ok-unit.ensures.ok c.in_ok-unit.ensures.ok

pub add-requires-2-clause-follows : goal.add-requires-2-clause-follows
add-requires-2-clause-follows c = witness_follows _ c.add.new.self _ _ 3 One One c.in_ok-unit.ensures.ok c.in_ok-unit.ensures.ok

pub add-requires-3-clause-follows : goal.add-requires-3-clause-follows
add-requires-3-clause-follows c =
    comp_follows _ _ _ _ _ _ _ _ One One One c.in_ok-second.ensures.ok (means_kept _ _ _ _ _ c.in_ok-second.ensures.kept c.in_ok-first.ensures.ok) (rw c.in_ok-unit.ensures.ok.is refl) (rw c.in_ok-unit.ensures.ok.is refl)
    c.in_ok-unit.ensures.ok c.in_ok-unit.ensures.ok

pub canonical-requires-clause-alone : goal.canonical-requires-clause-alone
canonical-requires-clause-alone c =
    let second = row_kept _ _ _ _ c.in_ok-root.ensures.kept c.in_ok-second.ensures.row in
    let first = row_kept _ _ _ _ c.in_ok-root.ensures.kept (row_kept _ _ _ _ c.in_ok-second.ensures.kept c.in_ok-first.ensures.row) in
    let later = c.in_ok-second.ensures.added (witness_new _ 3 _ _) in
    let below = children_below _ _ _ _ c.in_ok-root.ensures.stands c.in_ok-root.ensures.row in
    let other : c.in_ok-second.second ≡ c.in_ok-first.first → ⊥ = λ e. absurd (omega (arith, e, later.0, c.in_ok-first.ensures.ok.within)) in
    let some : 0 < c.in_ok-root.root = omega (arith, below.0) in
    comp_alone _ c.in_ok-second.second c.in_ok-first.first 3 5 _ _ second first other c.in_ok-root.root some c.in_ok-root.ensures.row
