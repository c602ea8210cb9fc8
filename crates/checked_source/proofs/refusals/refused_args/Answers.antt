-- Answers to the goals of `refused_args` in `refusals`.
use Rattle.checked_source.proofs.refusals.refused_args.Goals as goal

pub returns-in-NotJson : goal.returns-in-NotJson
returns-in-NotJson c = rw c.in-NotJson.is c.refused_data.ensures

pub returns-in-BadEntry : goal.returns-in-BadEntry
returns-in-BadEntry c = rw c.in-BadEntry.is (rw c.as_str.ensures at c.refused_data-in-BadEntry.ensures)

pub returns-in-BadValue : goal.returns-in-BadValue
returns-in-BadValue c = rw c.in-BadValue.is (rw c.as_str-in-BadValue.ensures at c.refused_data-in-BadValue.ensures)
