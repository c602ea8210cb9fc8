-- Answers to the goals of `jet_row`: the row of a jet.
use Rattle.std.proofs.Common.{◌∙◌, ap, refl, Some}
use Rattle.jet_table.specs.Rows.{row_of}
use Rattle.hl_scope.proofs.Rising.{jet_found, jet_absent, jet_sound}
use Rattle.hl_scope.proofs.signature.jet_row.Goals as goal

pub returns-in-Some-clause-answers : goal.returns-in-Some-clause-answers
returns-in-Some-clause-answers c = rw (jet_found c.profile-jets.result c.in-Some.place (row_of c.row.result.now) c.args.name.now.text (record { all = c.profile-jets.ensures.rows; rising = c.profile-jets.ensures.rising }) c.row.ensures.there (c.in-Some.ensures.there ∙ ap Some c.as_str.ensures)) refl

pub returns-in-Some-clause-sound : goal.returns-in-Some-clause-sound
returns-in-Some-clause-sound c = jet_sound c.profile-jets.result c.in-Some.place (row_of c.row.result.now) (record { all = c.profile-jets.ensures.rows; rising = c.profile-jets.ensures.rising }) c.row.ensures.there

pub returns-in-None : goal.returns-in-None
returns-in-None c = record { sound = tt; answers = rw (jet_absent c.profile-jets.result c.args.name.now.text (record { all = c.profile-jets.ensures.rows; rising = c.profile-jets.ensures.rising }) (rw c.as_str.ensures at c.in-None.ensures.absent)) refl }
