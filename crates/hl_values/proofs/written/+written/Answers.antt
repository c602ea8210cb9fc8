-- Answers to the goals of `written` in `written`.
use Rattle.std.proofs.Common.{◌<◌, length, map, arith}
use denote.Param.Weighed.{at_most}
use Rattle.hl_syntax.specs.declared.tree.Expr.{size-Expr}
use Rattle.hl_values.specs.Written.{written, each_at}
use Rattle.hl_values.proofs.Encoding.{sound_at}
use Rattle.hl_values.proofs.Reading.{unlike_counts, part_read}
use Rattle.hl_values.proofs.written.+written.Goals as goal

pub parts_at-returns-then-len : goal.parts_at-returns-then-len
parts_at-returns-then-len t c = unlike_counts c.args.parts.now c.args.kinds.now (λ same. c.if-len.true (omega arith))

pub parts_at-value_at-requires : goal.parts_at-value_at-requires
parts_at-value_at-requires t c =
    let parts = c.args.parts.now in
    let less : c.parts.place < length parts = rw (← c.as_slice-part-items.ensures) c.parts-test.true in
    let h = at_most size-Expr parts c.parts.place c.part-item.result less in
    let is = rw c.as_slice-part-items.ensures at c.part-item.is in
    let bound = rw (← is) at h in
    (omega (arith, bound, c.decreases), sound_at c.args.kinds.now c.parts.place c.get.result.now c.requires c.get.ensures)

pub parts_at-parts-preserved : goal.parts_at-parts-preserved
parts_at-parts-preserved t c =
    rw c.in_ok-push.ensures.ok (part_read c.as_slice-part-items.result.now c.parts.place c.part-item.result c.parts-test.true c.part-item.is c.parts.values c.in_ok-value.value c.args.kinds.now c.get.result.now
    (each_at (map written c.args.parts.now) c.args.kinds.now) c.get.ensures c.in_ok-value.ensures c.parts.invariant)
