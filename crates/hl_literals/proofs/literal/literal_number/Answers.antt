-- Answers to the goals of `literal_number`: the number that a literal spells.
use Rattle.std.proofs.Common.{sym, ◌∙◌}
use Rattle.hl_literals.proofs.Spelling.{decimal_spelled}
use Rattle.hl_literals.proofs.literal.literal_number.Goals as goal

pub returns-then-is_decimal-clause-found : goal.returns-then-is_decimal-clause-found
returns-then-is_decimal-clause-found c = let h = decimal_spelled c.args.word.now (sym c.is_decimal.ensures ∙ c.if-is_decimal.true) in rw h c.based_number.ensures.found

pub returns-then-is_decimal-clause-none : goal.returns-then-is_decimal-clause-none
returns-then-is_decimal-clause-none c = let h = decimal_spelled c.args.word.now (sym c.is_decimal.ensures ∙ c.if-is_decimal.true) in rw h c.based_number.ensures.none
