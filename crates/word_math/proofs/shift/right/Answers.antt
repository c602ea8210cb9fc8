-- Answers to the goals of `right`: `a` moved to the right, with `fill` in the places that fall free.
use Rattle.std.proofs.Common.{◌≡◌, ◌<◌, arith, min}
use Rattle.word_math.proofs.Moved.{ones_moved, right_fits, powers_grow}
use Rattle.word_math.proofs.shift.right.Goals as goal

pub overflow_add-a : goal.overflow_add-a
overflow_add-a c =
    rw (ones_moved c.args.n c.args.places c.args.fill c.filled.result c.if-moved-n.true c.requires.width.small c.requires.bit c.filled.ensures)
    (omega (
      arith,
      right_fits c.args.n c.args.places c.args.fill c.args.a c.if-moved-n.true c.requires.bit c.requires.fits,
      powers_grow c.args.n 64 c.requires.width.small,
    ))

pub narrow-requires-clause-fits : goal.narrow-requires-clause-fits
narrow-requires-clause-fits c =
    rw (ones_moved c.args.n c.args.places c.args.fill c.filled.result c.if-moved-n.true c.requires.width.small c.requires.bit c.filled.ensures)
    (right_fits c.args.n c.args.places c.args.fill c.args.a c.if-moved-n.true c.requires.bit c.requires.fits)

pub returns-then-moved-n : goal.returns-then-moved-n
returns-then-moved-n c =
    let e = ones_moved c.args.n c.args.places c.args.fill c.filled.result c.if-moved-n.true c.requires.width.small c.requires.bit c.filled.ensures in
    let less : c.args.places < c.args.n = c.if-moved-n.true in
    let m : min c.args.places c.args.n ≡ c.args.places = omega arith in
    cc
