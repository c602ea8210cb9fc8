-- Answers to the goals of `refused_witnesses` in `refusals`.
use Rattle.checked_source.proofs.refusals.refused_witnesses.Goals as goal

pub returns-in-NotJson : goal.returns-in-NotJson
returns-in-NotJson c = rw c.in-NotJson.is c.refused_data.ensures

pub returns-in-Missing : goal.returns-in-Missing
returns-in-Missing c = rw c.in-Missing.is (rw c.as_str.ensures at c.refused_data-in-Missing.ensures)

pub returns-in-BadEntry : goal.returns-in-BadEntry
returns-in-BadEntry c = rw c.in-BadEntry.is (rw c.as_str-in-BadEntry.ensures at c.refused_data-in-BadEntry.ensures)

pub returns-in-TypeDiffers : goal.returns-in-TypeDiffers
returns-in-TypeDiffers c = rw c.in-TypeDiffers.is (rw c.as_str-in-TypeDiffers.ensures at c.refused_data-in-TypeDiffers.ensures)

pub returns-in-BadValue : goal.returns-in-BadValue
returns-in-BadValue c = rw c.in-BadValue.is (rw c.as_str-in-BadValue.ensures at c.refused_data-in-BadValue.ensures)
