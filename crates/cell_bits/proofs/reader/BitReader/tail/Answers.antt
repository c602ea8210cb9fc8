-- Answers to the goals of `tail`: tests that the rest is fewer than eight zeros.
use Rattle.std.proofs.Common.{ap, sym, subst, ◌≡◌, ◌∙◌, ◌∷◌, ◌+◌, ◌-◌, ◌*◌, ◌/◌, ◌≤◌, drop, length, arith}
use Rattle.simplicity.specs.Spelling.{byte_bits}
use Rattle.cell_bits.specs.Places.{Place}
use Rattle.cell_bits.proofs.Answered.{tail_one, tail_zero, tail_short, tail_long, all_bits, rounded}
use Rattle.cell_bits.proofs.reader.BitReader.tail.Goals as goal

pub returns-then-is_one : goal.returns-then-is_one
returns-then-is_one c =
    tail_one c.args.self.now c.loop-place.place c.loop-place.invariant c.is_one.result
    (subst (λ (p : Place). drop c.loop-place.place p.bits ≡ c.is_one.result ∷ drop (c.loop-place.place + 1) p.bits) c.self.view_is c.is_one.ensures) c.if-is_one.true

pub loop-place-preserved : goal.loop-place-preserved
loop-place-preserved c =
    let at : c.self.inside.at ≡ c.args.self.now.at = ap (λ (p : Place). p.at) c.self.view_is in
    tail_zero c.args.self.now c.loop-place.place c.loop-place.invariant c.is_one.result
    (subst (λ (p : Place). drop c.loop-place.place p.bits ≡ c.is_one.result ∷ drop (c.loop-place.place + 1) p.bits) c.self.view_is c.is_one.ensures) c.if-is_one.false
    (omega (arith, at, c.loop-place.auto.place))

pub returns-then-all-self-lt8 : goal.returns-then-all-self-lt8
returns-then-all-self-lt8 c =
    let at : c.self.inside.at ≡ c.args.self.now.at = ap (λ (p : Place). p.at) c.self.view_is in
    let all = all_bits c.args.self.now c.self.inside.bytes.now c.self.inside.at c.self.view_is in
    let near : c.loop-place.place ≤ length c.self.inside.bytes.now * 8 = c.loop-place.auto.place-end (omega (arith, c.self.invariant)) in
    tail_short c.args.self.now c.loop-place.place c.loop-place.invariant (omega (arith, all, near, c.loop-place-test.false))
    (omega (arith, at, near, c.loop-place-test.false, c.if-all-self-lt8.true))

pub returns-else-all-self-lt8 : goal.returns-else-all-self-lt8
returns-else-all-self-lt8 c =
    let at : c.self.inside.at ≡ c.args.self.now.at = ap (λ (p : Place). p.at) c.self.view_is in
    let all = all_bits c.args.self.now c.self.inside.bytes.now c.self.inside.at c.self.view_is in
    let near : c.loop-place.place ≤ length c.self.inside.bytes.now * 8 = c.loop-place.auto.place-end (omega (arith, c.self.invariant)) in
    tail_long c.args.self.now c.loop-place.place (c.div_ceil.result * 8) c.loop-place.invariant (omega (arith, all, near, c.loop-place-test.false))
    (omega (arith, at, near, c.loop-place-test.false, c.if-all-self-lt8.false))
    (rounded c.self.inside.at c.div_ceil.result c.args.self.now.at at c.div_ceil.ensures)
