-- Answers to the goals of `append_natural`: appends the code of a natural; after an error some of it may
-- stand there.
use Rattle.std.proofs.Common.{arith, ◌<◌, ◌≤◌}
use Rattle.cell_bits.proofs.Bits.{exponent-below, natural-appended}
use Rattle.cell_bits.proofs.writer.+append_natural.Goals as goal

pub append_natural-requires : goal.append_natural-requires
append_natural-requires t c =
    let n : (c.ilog2-exponent.result < c.args.value) × (1 ≤ c.ilog2-exponent.result) = exponent-below c.args.value c.ilog2-exponent.result c.requires c.if-value-eq1.false c.ilog2-exponent.ensures.power_le c.ilog2-exponent.ensures.next_power_gt in
    (omega (arith, n.0), omega (arith, n.1))

pub returns-clause-ok : goal.returns-clause-ok
returns-clause-ok t c =
    let n : (c.ilog2-exponent.result < c.args.value) × (1 ≤ c.ilog2-exponent.result) = exponent-below c.args.value c.ilog2-exponent.result c.requires c.if-value-eq1.false c.ilog2-exponent.ensures.power_le c.ilog2-exponent.ensures.next_power_gt in
    natural-appended c.args.bits.now.items _ _ _ c.args.value c.ilog2-exponent.result _ n.1 c.ilog2-exponent.ensures.power_le c.ilog2-exponent.ensures.next_power_gt (omega (arith, c.ilog2-exponent.ensures.power_le, c.ranges.value)) c.in_ok-push-2.ensures.items (rw c.from.ensures at c.in_ok-append_natural.ensures.ok) c.in_ok-append_number.ensures.ok
