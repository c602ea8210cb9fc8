-- Answers to the goals of `list_of_last` in `join`.
use Rattle.std.proofs.Common.{arith, ◌^◌, ◌<◌, ◌≤◌, ap, ◌∙◌}
use Rattle.core_data.specs.Data.{value_of}
use Rattle.simplicity.specs.Types.{Pair}
use Rattle.hl_values.proofs.Lasts.{left_length, one_item, short_last, long_last, shifted}
use Rattle.hl_values.proofs.join.+list_of_last.Goals as goal

pub returns-then-level-eq0 : goal.returns-then-level-eq0
returns-then-level-eq0 t c =
    one_item c.args.values.now.items c.last-item.new.values.items c.last-item.result c.in_ok-right.field-0 c.args.count c.args.level c.if-level-eq0.true c.requires.few c.if-count-eq0.false
    c.in_ok-right.ensures c.last-item.ensures

pub returns-then-count-block : goal.returns-then-count-block
returns-then-count-block t c =
    let e = shifted c.args.level c.requires.low in
    let less : c.args.count < 2 ^ c.args.level = omega (arith, e) in
    short_last _ _ _ _ c.in_ok-rest.rest c.in_ok-pair.field-0 c.if-level-eq0.false less (c.in_ok-pair.ensures ∙ ap (λ v. Pair v (value_of c.in_ok-rest.rest)) c.in_ok-none.ensures) c.in_ok-rest.ensures

pub tuple_of_last-requires : goal.tuple_of_last-requires
tuple_of_last-requires t c =
    let e = shifted c.args.level c.requires.low in
    let n = left_length _ _ _ _ _ c.in_ok-rest-2.ensures (omega (arith, e)) in omega (arith, e, n)

pub returns : goal.returns
returns t c =
    let e = shifted c.args.level c.requires.low in
    let more : 2 ^ c.args.level ≤ c.args.count = omega (arith, e) in
    long_last _ _ _ _ _ c.in_ok-rest-2.rest c.in_ok-items.items c.in_ok-pair-2.field-0 c.if-level-eq0.false more
    (c.in_ok-pair-2.ensures ∙ ap (λ v. Pair v (value_of c.in_ok-rest-2.rest)) c.in_ok-first.ensures) (rw e at c.in_ok-rest-2.ensures) (rw e at c.in_ok-items.ensures)
