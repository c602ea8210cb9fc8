-- Answers to the goals of `number_of`: the number of a witness.
use Rattle.std.proofs.Common.{◌≡◌, ◌∙◌, sym, ap, subst}
use Rattle.translate.proofs.Calls.{number_there, number_past}
use Rattle.translate.proofs.leaf.number_of.Goals as goal

pub returns-in-Some : goal.returns-in-Some
returns-in-Some c = number_there c.args.name.now c.args.witnesses.now c.in-Some.place (rw c.as_slice.ensures at (sym c.place_of.ensures ∙ c.in-Some.is))

pub returns-in-None : goal.returns-in-None
returns-in-None c = c.len.ensures ∙ number_past c.args.name.now c.args.witnesses.now (rw c.as_slice.ensures at (sym c.place_of.ensures ∙ c.in-None.is))
