-- Answers to the goals of `tuple` in `checking`.
use Rattle.std.proofs.Common.{rules}
use Rattle.hl_rules.specs.Exprs.{expr_walk}
use Rattle.hl_check.proofs.Lengths.{map_length}
use Rattle.hl_check.proofs.checking.Checking.tuple.Goals as goal

pub returns-in_err-needs-clause-gives : goal.returns-in_err-needs-clause-gives
returns-in_err-needs-clause-gives g c = rw (map_length (expr_walk c.args.self.now.checker.now) c.args.parts.now) (search rules)
