-- Answers to the goals of `descend` in `path`.
use Rattle.std.proofs.Common.{arith}
use Rattle.scope_layout.proofs.Places.{to_front, to_back}
use Rattle.scope_layout.proofs.path.+descend.Goals as goal

pub returns-in_ok-precede : goal.returns-in_ok-precede
returns-in_ok-precede t c =
    to_front c.args.place c.args.count c.first_half-half.result c.args.route.now c.descend.new.route c.precede.new.self (omega (arith, c.requires, c.if-count-eq1.false)) c.first_half-half.ensures
    (omega (arith, c.if-place-half.true)) c.in_ok-descend.ensures c.in_ok-precede.ensures

pub returns-in_ok-precede-2 : goal.returns-in_ok-precede-2
returns-in_ok-precede-2 t c =
    to_back c.args.place c.args.count c.first_half-half.result c.args.route.now c.descend-else-place-half.new.route c.precede-else-place-half.new.self
    (omega (arith, c.requires, c.if-count-eq1.false)) c.first_half-half.ensures (omega (arith, c.if-place-half.false)) c.in_ok-descend-2.ensures c.in_ok-precede-2.ensures
