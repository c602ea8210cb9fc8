-- Answers to the goals of `check_order`: whether a list is the left-first post-order of its root.
use Rattle.std.proofs.Common.{◌<◌, subst, ℕ, arith}
use Rattle.share_order.proofs.Ordering.{all_in_place, full_by}
use Rattle.share_order.proofs.order.check_order.Goals as goal

pub returns-clause-ok : goal.returns-clause-ok
returns-clause-ok c =
    let end = c.len-node-end.ensures in
    let test = c.loop-node-test.false in
    let full = subst (λ (n : ℕ). 0 < n) c.len.ensures (full_by c.len.result c.if-len-eq0.false) in
    all_in_place c.args.nodes.now c.as_slice-placed.ensures.placed full (λ i l. c.loop-node.invariant i (omega arith))
