-- Answers to the goals of `closer_end`: the number of bytes up to and with the first `*/`.
use Rattle.std.proofs.Common.{◌≡◌, ◌∙◌, rules, false, drop, nat_eq}
use Rattle.std.specs.Prelude.{codes}
use Rattle.std.specs.List.{starts_with}
use Rattle.hl_lex.proofs.Closers.{closer_later}
use Rattle.hl_lex.proofs.front.closer_end.Goals as goal

pub loop-place-preserved : goal.loop-place-preserved
loop-place-preserved c =
    let test : starts_with nat_eq (drop c.loop-place.place c.args.text.now) (codes "*/") ≡ false = search rules in
    c.loop-place.invariant ∙ closer_later c.args.text.now c.loop-place.place c.loop-place-test.true test
