-- Answers to the goals of `misses`: how many cases give other results than they say.
use Rattle.std.proofs.Common.{arith, ◌<◌, length}
use Rattle.core_rows.proofs.Called.{list_all-get_or}
use Rattle.core_rows.proofs.formulas.misses.Goals as goal

pub given-requires : goal.given-requires
given-requires c =
    let within : c.loop-case.case-index < length c.args.cases.now = omega arith in
    record { call = list_all-get_or _ c.args.cases.now c.loop-case.case-index _ within c.requires.calls }
