-- Answers to the goals of `tuple_of_last` in `join`.
use Rattle.std.proofs.Common.{arith}
use Rattle.hl_values.proofs.Lasts.{left_length, one_last, both_last}
use Rattle.hl_values.proofs.join.+tuple_of_last.Goals as goal

pub returns-then-count-eq1 : goal.returns-then-count-eq1
returns-then-count-eq1 t c = one_last c.args.values.now.items c.last.new.values.items c.last.result c.args.count c.if-count-eq1.true c.last.ensures

pub tuple_of_last-requires-2 : goal.tuple_of_last-requires-2
tuple_of_last-requires-2 t c =
    let n = left_length _ _ _ _ _ c.in_ok-rest.ensures (omega arith) in (omega arith, omega arith)

pub returns : goal.returns
returns t c = both_last _ _ _ _ _ _ _ (omega arith) c.in_ok-pair.ensures c.in_ok-rest.ensures c.in_ok-first.ensures
