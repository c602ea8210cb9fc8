-- Answers to the goals of `bit`: the bit at a place, the most significant first.
use Rattle.std.proofs.Common.{◌≡◌, ◌/◌, ◌%◌, ◌^◌, nat_eq, arith, ap}
use Rattle.word_math.proofs.Moved.{low_bit, high_bit}
use Rattle.word_math.proofs.word.Word.bit.Goals as goal

pub returns-then-behind-lt128 : goal.returns-then-behind-lt128
returns-then-behind-lt128 c =
    let whole = ap (λ u. u.number) c.self.view_is in
    let width = ap (λ u. u.width) c.self.view_is in
    let low : c.self.inside.low ≡ c.args.self.now.number % 2 ^ 128 = omega (arith, whole, c.self.invariant.1) in
    rw (low, width) (ap (λ x. nat_eq x 1) (low_bit c.args.self.now.number _ (omega arith)))

pub returns-else-behind-lt128 : goal.returns-else-behind-lt128
returns-else-behind-lt128 c =
    let whole = ap (λ u. u.number) c.self.view_is in
    let width = ap (λ u. u.width) c.self.view_is in
    let high : c.self.inside.high ≡ c.args.self.now.number / 2 ^ 128 = omega (arith, whole, c.self.invariant.1) in
    rw (high, width) (ap (λ x. nat_eq (x % 2) 1) (high_bit c.args.self.now.number _ (omega arith)))
