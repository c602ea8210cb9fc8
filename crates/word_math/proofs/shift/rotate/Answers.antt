-- Answers to the goals of `rotate`: `a` with its first `places` bits put behind the others.
use Rattle.word_math.proofs.Moved.{moved_and_cut, rotated_fits}
use Rattle.word_math.proofs.shift.rotate.Goals as goal

pub narrow-requires-clause-fits : goal.narrow-requires-clause-fits
narrow-requires-clause-fits c =
    rw (moved_and_cut c.args.n c.args.places c.args.a c.requires.small c.requires.width.small c.requires.fits)
    (rotated_fits c.args.n c.args.places c.args.a c.requires.small c.requires.fits)

pub returns : goal.returns
returns c =
    let e = moved_and_cut c.args.n c.args.places c.args.a c.requires.small c.requires.width.small c.requires.fits in
    cc
